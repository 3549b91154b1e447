-- The promises allow one outcome only: two tables of 256 channels that look the same are the same, number for number, so `fresh` and `feed` leave one table, and
-- `row` and `counts` give one answer. Assumes nothing.
use Prim.Native.Nat.{ℕ}
use mathlib.Core.Path.{◌≡◌, ap, sym, ◌∙◌}
use mathlib.Core.List.{List}
use seplogic.Ra.Ura.{Ura}
use base.Logic.{SProp, ent, id⊢}
use prog.Memory.{Memory}
use prog.Routine.{Routine}
use types.Logic.{Logic}
use contract.Conj.{conj}
use contract.Lifetimes.{Lfts}
use contract.Monad.{Fun, fact}
use denote.Triple.Clauses.{AtExit}
use borrow.Fn.Kinds.{Dens, ended_of}
use lib.ListN.{length, get_or}
use lib.Seq.{ext_get_or}
use Rattle.text.proofs.OneOutcome.{OneAnswer}
use Rattle.channels.specs.declared.Channels.{Channels}
use Rattle.channels.specs.Machine.{Machine, step}
use Rattle.channels.specs.Steps.{Whole}
use Rattle.channels.specs.View.{view}
use Rattle.channels.proofs.Facts.{both_entail}
use Rattle.channels.proofs.Programs.{Feeding, before, frame_of, after, fed, fed_step}
use Rattle.channels.proofs.fresh as made
use Rattle.channels.specs.contracts.row as row
use Rattle.channels.specs.contracts.counts as counts

-- each array of a table has 256 numbers
abbrev pub Full : Channels → Type 0
Full t = Whole t.kind t.high t.low t.port

pub one_table : (t u : Channels) → Full t → Full u → view t ≡ view u → t ≡ u
one_table t u ft fu e = λ i. record {
  kind = lists t.kind u.kind (ft.0 ∙ sym fu.0) (λ c. ap (λ (m : Machine). (m.rows c).kind) e) i;
  high = lists t.high u.high (ft.1 ∙ sym fu.1) (λ c. ap (λ (m : Machine). (m.rows c).high) e) i;
  low = lists t.low u.low (ft.2 ∙ sym fu.2) (λ c. ap (λ (m : Machine). (m.rows c).low) e) i;
  port = lists t.port u.port (ft.3 ∙ sym fu.3) (λ c. ap (λ (m : Machine). (m.rows c).port) e) i;
  reopened = (e i).counts.reopened;
  reclosed = (e i).counts.reclosed;
  stray = (e i).counts.stray;
  refused = (e i).counts.refused;
}
  where
    lists : (xs ys : List ℕ) → length xs ≡ length ys → ((c : ℕ) → get_or xs c 0 ≡ get_or ys c 0) → xs ≡ ys
    lists xs ys l same = ext_get_or 0 xs ys l (λ c h. same c)

-- every array of a table has 256 numbers, since that is their type
pub one-fresh : (κs : Lfts 0) (a : Dens κs made.Kinds.ps) (t u : Channels) (s v : AtExit (ended_of 0 made.Kinds.ps made.Kinds.r) κs) → Full t → Full u → made.Reads.Post κs a t s → made.Reads.Post κs a u v → t ≡ u
one-fresh κs a t u s v ft fu p q = one_table t u ft fu (p ∙ sym q)

module _ {M : Type 1} {𝓤 : Ura M} (𝓛 : Logic 𝓤) (mem : Memory → SProp 𝓤) (call : Routine → Fun 𝓤) where
  pub one_feed : (f g : Feeding) → before f ≡ before g → frame_of f ≡ frame_of g → Full (after f) → Full (after g)
      → ent 𝓤 (conj 𝓤 (fed 𝓛 mem call f) (fed 𝓛 mem call g)) (fact 𝓤 (after f ≡ after g))
  one_feed f g table frame ff fg = both_entail 𝓤 (fed_step 𝓛 mem call f) (fed_step 𝓛 mem call g) (λ p q. one_table (after f) (after g) ff fg (p ∙ (λ i. step (view (table i)) (frame i)) ∙ sym q))

  pub one-row : OneAnswer 𝓛 mem call row.ended (row.clauses 𝓛 mem call)
  one-row κs a g h x y s t = both_entail 𝓤 (id⊢ 𝓤 _) (id⊢ 𝓤 _) (λ p q. p ∙ sym q)

  pub one-counts : OneAnswer 𝓛 mem call counts.ended (counts.clauses 𝓛 mem call)
  one-counts κs a g h x y s t = both_entail 𝓤 (id⊢ 𝓤 _) (id⊢ 𝓤 _) (λ p q. p ∙ sym q)
