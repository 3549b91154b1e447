use Prim.Native.Nat.{◌≤◌, ◌-◌}
use Rattle.abi.specs.Steps.{kinds_for}
use Rattle.abi.proofs.GivenLaws.{Taking}
use Rattle.abi.proofs.given.of_kinds.Given as goal

-- `given::of_kinds` meets its contract: the values are taken from left to right, as far as they fit. Assumes nothing.
abbrev pub invariant-loop-i : goal.invariant-loop-i
invariant-loop-i l = (l.i ≤ l.count) × Taking (kinds_for l.kinds l.count) l.row l.values l.at l.i

abbrev pub decreases-loop-i : goal.decreases-loop-i
decreases-loop-i l = l.count - l.i
