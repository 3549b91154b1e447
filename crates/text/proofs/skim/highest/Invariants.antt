use lib.ListN.{get_or}
use Prim.Native.Nat.{ℕ, ◌+◌, ◌≤◌, ◌<◌}
use Rattle.text.proofs.skim.highest.Given as goal

abbrev pub invariant-loop-b : goal.invariant-loop-b
invariant-loop-b l = ((k : ℕ) → l.from ≤ k → k < l.from + l.b-index → get_or l.s k 0 ≤ l.h)
