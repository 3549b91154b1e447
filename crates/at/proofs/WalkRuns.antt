-- A run of `next` over one buffer, as a caller's loop makes it: each step is asked of the walk that the step before it handed out, up to the end or to a
-- refusal. Whatever the steps answer, together they are the walk that the definitions give: by the contract of `next` itself. Assumes nothing.
use Prim.Native.Nat.{ℕ}
use mathlib.Core.Path.{◌≡◌, ap}
use mathlib.Core.List.{List, [], ◌∷◌}
use contract.Lifetimes.{Lfts}
use denote.Ref.{Bor}
use denote.Triple.Clauses.{AtExit}
use borrow.Fn.Kinds.{ended_of}
use Rattle.std.specs.Prelude.{Option, Some, None, Result, Ok, Err}
use Rattle.at.specs.Refusal.{refusal_of}
use Rattle.at.specs.W36.{event_of}
use Rattle.at.specs.Walk.{Walk, event_then, then_end, then_refused, walk_at}
use Rattle.at.specs.declared.walk.EventWalk.{EventWalk}
use Rattle.at.specs.declared.walk.EventStep.{EventStep}
use Rattle.at.specs.declared.walk.EventRefused.{EventRefused}
use Rattle.at.proofs.WalkLaws.{walk_on_lem}
use Rattle.at.proofs.walk.EventWalk.next as next

-- what the steps of a run report, in the definitions' terms
abbrev pub Answer : Type 0
Answer = Result (Option EventStep) EventRefused

abbrev pub reported : List Answer → Walk
reported [] = then_end
reported (Ok (Some x) ∷ xs) = event_then (event_of x.event) x.rest.at (reported xs)
reported (Ok None ∷ xs) = then_end
reported (Err r ∷ xs) = then_refused (refusal_of r.error) r.at

module _ (κs : Lfts 1) (s : Bor (List ℕ)) where
  -- what `next` may answer to a walk
  abbrev pub Answers : EventWalk → Answer → Type 0
  Answers w x = (i : AtExit (ended_of 1 next.Kinds.ps next.Kinds.r) κs) × next.Reads.Post κs (w, (s, tt)) x i

  -- a run from a walk on: nothing comes after the end or a refusal, and an event is not the last step
  abbrev pub Run : EventWalk → List Answer → Type 0
  Run w [] = ⊥
  Run w (Ok (Some x) ∷ xs) = Answers w (Ok (Some x)) × Run x.rest xs
  Run w (Ok None ∷ []) = Answers w (Ok None)
  Run w (Ok None ∷ x ∷ xs) = ⊥
  Run w (Err r ∷ []) = Answers w (Err r)
  Run w (Err r ∷ x ∷ xs) = ⊥

  pub run-is_the_walk : (xs : List Answer) (w : EventWalk) → Run w xs → reported xs ≡ walk_at s.now w.at
  run-is_the_walk [] w r = absurd r
  run-is_the_walk (Ok (Some x) ∷ xs) w r =
      rw (walk_on_lem s.now w.at, ← r.0.1) (ap (event_then (event_of x.event) x.rest.at) (run-is_the_walk xs x.rest r.1))
  run-is_the_walk (Ok None ∷ []) w r = rw (walk_on_lem s.now w.at, ← r.1)
  run-is_the_walk (Ok None ∷ x ∷ xs) w r = absurd r
  run-is_the_walk (Err e ∷ []) w r = rw (walk_on_lem s.now w.at, ← r.1)
  run-is_the_walk (Err e ∷ x ∷ xs) w r = absurd r
