-- Laws of a walk's line: a step with an event and then the walk from there on, or the last step.
use Rattle.std.proofs.Common.{◌≡◌, ℕ, List, ◌++◌, ap, arith}
use Rattle.std.specs.Prelude.{Option, Some, None, Result, Ok, Err}
use Rattle.std.specs.Result.{result_unwrap_or}
use Rattle.text.specs.Bytes.{bytes}
use Rattle.at.specs.Refusal.{Refusal, refusal_of}
use Rattle.at.specs.Event.{Event}
use Rattle.at.specs.W36.{event_of}
use Rattle.at.specs.Walk.{one, end, refused_at, step_at, walk_at, shown}
use Rattle.at.specs.declared.walk.EventStep.{EventStep}
use Rattle.at.specs.declared.walk.EventRefused.{EventRefused}
use Rattle.at.proofs.WalkLaws.{walk_on_lem}
use Rattle.render.specs.Walk.{step_line, walk_line}

module _ (s : List ℕ) (p : ℕ) where
  pub walk-event : (e : Event) (q : ℕ) → one e q ≡ step_at s p → walk_line s (walk_at s p) ≡ step_line s (one e q) ++ bytes " ; " ++ walk_line s (walk_at s q)
  unfolding walk_line
  walk-event e q h = rw (walk_on_lem s p, ← h)

  pub walk-ended : end ≡ step_at s p → walk_line s (walk_at s p) ≡ step_line s end
  unfolding walk_line
  walk-ended e = rw (walk_on_lem s p, ← e)

  pub walk_refused : (n : Refusal) (q : ℕ) → refused_at n q ≡ step_at s p → walk_line s (walk_at s p) ≡ step_line s (refused_at n q)
  unfolding walk_line
  walk_refused n q e = rw (walk_on_lem s p, ← e)

  -- the last step, the end or a refusal
  pub walk_last : (x : Result (Option EventStep) EventRefused) → shown x ≡ step_at s p → result_unwrap_or x None ≡ None → walk_line s (walk_at s p) ≡ step_line s (shown x)
  walk_last (Ok (Some y)) e n = let z : ◌≡◌ {A = ℕ} 0 1 = cc in absurd (omega arith)
  walk_last (Ok None) e n = walk-ended e
  walk_last (Err r) e n = walk_refused (refusal_of r.error) r.at e

pub was-stepped : (x : Result (Option EventStep) EventRefused) (n : EventStep) → result_unwrap_or x None ≡ Some n → (x ≡ Ok (Some n)) × (shown x ≡ one (event_of n.event) n.rest.at)
was-stepped (Ok y) n e = (ap Ok e, ap (λ (z : Option EventStep). shown (Ok z)) e)
was-stepped (Err y) n e = let z : ◌≡◌ {A = ℕ} 0 1 = cc in absurd (omega arith)
