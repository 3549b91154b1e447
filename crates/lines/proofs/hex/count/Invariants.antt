use Rattle.std.proofs.Common.{◌+◌, ◌≤◌, ◌≡◌, length}
use Rattle.lines.specs.Hex.{pairs}
use Rattle.lines.specs.Steps.{counted}
use Rattle.lines.proofs.hex.count.Given as goal

-- `count` meets its contract: the bytes so far, and those that what is left spells, are those that the text spells.
abbrev pub invariant-loop-pair : goal.invariant-loop-pair
invariant-loop-pair l = (l.n + length l.left ≤ length l.s) × (counted 0 (pairs l.s) ≡ counted l.n (pairs l.left))

abbrev pub decreases-loop-pair : goal.decreases-loop-pair
decreases-loop-pair l = length l.left
