use Rattle.std.proofs.Common.{◌≡◌, ℕ, ◌-◌, List, length}
use Rattle.pcap.specs.File.{run_at}
use Rattle.render.specs.Print.{Prints}
use Rattle.render.specs.Capture.{run_line}
use Rattle.replay.proofs.capture.records.Given as goal

-- `records` meets its contract: what completes the records from a place on completes the whole. It ends, since each record leads to a later place, and
-- not past the end of the bytes.
abbrev pub invariant-loop-r : goal.invariant-loop-r
invariant-loop-r l =
    (length l.output ≡ length l.initial.output)
    × ((r : ℕ) (e : List ℕ) → Prints l.output l.to (run_line (run_at l.order l.src l.at)) r e → Prints l.initial.output l.place (run_line (run_at l.order l.src 24)) r e)

abbrev pub decreases-loop-r : goal.decreases-loop-r
decreases-loop-r l = length l.src - l.at
