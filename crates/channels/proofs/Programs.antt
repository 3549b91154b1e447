-- What the calls' own contracts say of a run of frames. A call that is lent the table has no `Reads`: its promise is the contract's clause itself, an assertion
-- in any model of the logic, and a theorem says which fact that assertion entails. Assumes nothing.
use Prim.Native.Nat.{ℕ}
use mathlib.Core.Path.{◌≡◌, refl, sym, ap, subst, ◌∙◌}
use mathlib.Core.List.{List, [], ◌∷◌}
use seplogic.Ra.Ura.{Ura}
use base.Logic.{SProp, ent, emp, id⊢}
use prog.Memory.{Memory}
use prog.Routine.{Routine}
use types.Logic.{Logic}
use contract.Conj.{conj}
use contract.Lifetimes.{Lfts}
use contract.Monad.{Fun, fact, fact_i}
use denote.Triple.Clauses.{AtExit}
use denote.Triple.Entry.{Args}
use borrow.Fn.Kinds.{Dens, ended_of}
use Rattle.channels.specs.declared.Channels.{Channels}
use Rattle.channels.specs.declared.cell.Row.{Row}
use Rattle.channels.specs.declared.cell.Counts.{Counts}
use Rattle.channels.specs.Machine.{Machine, fresh, step, run}
use Rattle.channels.specs.View.{view}
use Rattle.channels.proofs.Facts.{entails, both_entail}
use Rattle.channels.proofs.MachineLaws.{AllGrow, run_grows}
use Rattle.channels.proofs.fresh as made
use Rattle.channels.specs.contracts.feed as feed
use Rattle.channels.specs.contracts.row as row
use Rattle.channels.specs.contracts.counts as counts

-- a call of `feed`, of `row` and of `counts`
pub record Feeding : Type 0 where
  pub lifetimes : Lfts 2
  pub args : Args feed.signature lifetimes
  pub exit : AtExit feed.ended lifetimes

abbrev pub before : Feeding → Channels
before f = f.args.0.now

abbrev pub frame_of : Feeding → List ℕ
frame_of f = f.args.1.0.now

abbrev pub after : Feeding → Channels
after f = f.exit.0.now

pub record Asking : Type 0 where
  pub lifetimes : Lfts 1
  pub args : Args row.signature lifetimes
  pub answer : Row
  pub exit : AtExit row.ended lifetimes

pub record Counting : Type 0 where
  pub lifetimes : Lfts 1
  pub args : Args counts.signature lifetimes
  pub answer : Counts
  pub exit : AtExit counts.ended lifetimes

-- calls of `feed` one after the other, each lent the table that the one before it left
pub data Run : Channels → Channels → Type 0 where
  none : {t : Channels} → Run t t
  then : {t w : Channels} (f : Feeding) → before f ≡ t → Run (after f) w → Run t w

abbrev pub frames_of : {t w : Channels} → Run t w → List (List ℕ)
frames_of none = []
frames_of (then f e r) = frame_of f ∷ frames_of r

module _ {M : Type 1} {𝓤 : Ura M} (𝓛 : Logic 𝓤) (mem : Memory → SProp 𝓤) (call : Routine → Fun 𝓤) where
  -- what their contracts ensure
  abbrev pub fed : Feeding → SProp 𝓤
  fed f = (feed.clauses 𝓛 mem call f.lifetimes f.args).ensures tt tt f.exit

  abbrev pub asked : Asking → SProp 𝓤
  asked c = (row.clauses 𝓛 mem call c.lifetimes c.args).ensures tt c.answer c.exit

  abbrev pub counted : Counting → SProp 𝓤
  counted c = (counts.clauses 𝓛 mem call c.lifetimes c.args).ensures tt c.answer c.exit

  abbrev pub all_fed : {t w : Channels} → Run t w → SProp 𝓤
  all_fed none = emp 𝓤
  all_fed (then f e r) = conj 𝓤 (fed f) (all_fed r)

  pub fed_step : (f : Feeding) → ent 𝓤 (fed f) (fact 𝓤 (view (after f) ≡ step (view (before f)) (frame_of f)))
  fed_step f = id⊢ 𝓤 (fed f)

  -- whatever the table was at first
  pub run-is_machine : {t w : Channels} (r : Run t w) → ent 𝓤 (all_fed r) (fact 𝓤 (view w ≡ run (view t) (frames_of r)))
  unfolding run
  run-is_machine none = fact_i 𝓤 _ (emp 𝓤) refl
  run-is_machine (then f e r) =
      both_entail 𝓤 (fed_step f) (run-is_machine r) (λ first rest. rest ∙ ap (λ (m : Machine). run m (frames_of r)) (first ∙ ap (λ (u : Channels). step (view u) (frame_of f)) e))

  pub counts_never_fall : {t w : Channels} (r : Run t w) → ent 𝓤 (all_fed r) (fact 𝓤 (AllGrow (view t).counts (view w).counts))
  counts_never_fall {t} r = entails 𝓤 (run-is_machine r) (λ e. subst (λ (m : Machine). AllGrow (view t).counts m.counts) (sym e) (run_grows (view t) (frames_of r)))

  -- from a table that `fresh` made: the table is the machine's, and so is whatever is asked of it afterwards
  module _ (κs : Lfts 0) (a : Dens κs made.Kinds.ps) {t w : Channels} (s : AtExit (ended_of 0 made.Kinds.ps made.Kinds.r) κs) (p : made.Reads.Post κs a t s) (r : Run t w) where
    pub run-from-fresh : ent 𝓤 (all_fed r) (fact 𝓤 (view w ≡ run fresh (frames_of r)))
    run-from-fresh = entails 𝓤 (run-is_machine r) (λ e. e ∙ ap (λ (m : Machine). run m (frames_of r)) p)

    pub row-after-run : (c : Asking) → c.args.0.now ≡ w → ent 𝓤 (conj 𝓤 (all_fed r) (asked c)) (fact 𝓤 (c.answer ≡ (run fresh (frames_of r)).rows c.args.1.0.0))
    row-after-run c e = both_entail 𝓤 run-from-fresh (id⊢ 𝓤 (asked c)) (λ m x. x ∙ ap (λ (n : Machine). n.rows c.args.1.0.0) (ap view e ∙ m))

    pub counts-after-run : (c : Counting) → c.args.0.now ≡ w → ent 𝓤 (conj 𝓤 (all_fed r) (counted c)) (fact 𝓤 (c.answer ≡ (run fresh (frames_of r)).counts))
    counts-after-run c e = both_entail 𝓤 run-from-fresh (id⊢ 𝓤 (counted c)) (λ m x. x ∙ ap (λ (n : Machine). n.counts) (ap view e ∙ m))
