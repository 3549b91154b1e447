use Rattle.std.proofs.Common.{◌≡◌, ◌-◌, ◌≤◌, length}
use Rattle.dump.proofs.GoesOnLaws.{Going}
use Rattle.dump.proofs.window.ranges.Given as goal

-- `window::ranges` meets its contract: after each range the state says the truth. Assumes nothing.
abbrev pub invariant-loop-i : goal.invariant-loop-i
invariant-loop-i g l = (length l.output ≡ length l.initial.output) × (l.i ≤ l.count) × Going l.src l.places l.initial.r l.r l.i

abbrev pub decreases-loop-i : goal.decreases-loop-i
decreases-loop-i g l = l.count - l.i
