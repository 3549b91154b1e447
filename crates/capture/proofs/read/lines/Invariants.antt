use Rattle.std.proofs.Common.{◌≡◌, ◌-◌, ◌≤◌, length}
use Rattle.capture.proofs.read.lines.Given as goal

-- `read::lines` is safe, and ends: each record leads to a later place, and not past the end of the bytes. Assumes nothing.
abbrev pub invariant-loop-r : goal.invariant-loop-r
invariant-loop-r g l = (l.used ≤ length l.src) × (length l.output ≡ length l.initial.output)

abbrev pub decreases-loop-r : goal.decreases-loop-r
decreases-loop-r g l = length l.src - l.used
