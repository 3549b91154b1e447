use Rattle.std.proofs.Common.{◌≡◌, length}
use Rattle.capture.specs.Line.{trimmed}
use Rattle.capture.proofs.line.trim.Given as goal

-- `line::trim` meets its contract: the blanks that were taken off do not count. Assumes nothing.
abbrev pub invariant-loop-left : goal.invariant-loop-left
invariant-loop-left l = trimmed l.s ≡ trimmed l.left

abbrev pub decreases-loop-left : goal.decreases-loop-left
decreases-loop-left l = length l.left
