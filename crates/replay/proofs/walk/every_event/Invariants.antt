use Rattle.std.proofs.Common.{◌≡◌, ℕ, ◌-◌, List, length}
use Rattle.at.specs.Walk.{walk_at, walk as walk_over}
use Rattle.render.specs.Print.{Prints}
use Rattle.render.specs.Walk.{walk_line}
use Rattle.replay.proofs.walk.every_event.Given as goal

-- `every_event` meets its contract: what completes the walk from its place on completes the whole. It ends, since each event moves the walk on, and
-- not past the end of the bytes.
abbrev pub invariant-loop-step : goal.invariant-loop-step
invariant-loop-step l =
    (length l.output ≡ length l.initial.output)
    × ((r : ℕ) (e : List ℕ) → Prints l.output l.to (walk_line l.src (walk_at l.src l.walk.at)) r e → Prints l.initial.output l.place (walk_line l.src (walk_over l.src)) r e)

abbrev pub decreases-loop-step : goal.decreases-loop-step
decreases-loop-step l = length l.src - l.walk.at
