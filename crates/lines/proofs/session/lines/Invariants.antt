use Rattle.std.proofs.Common.{◌≡◌, ◌-◌, ◌<◌, ◌≤◌, length}
use Rattle.lines.proofs.session.lines.Given as goal

-- `lines` meets its contract, and ends: a turn for each line end, and each line starts after the one before.
abbrev pub invariant-loop-end : goal.invariant-loop-end
invariant-loop-end g l = (l.end < length l.input → l.start ≤ l.end) × (length l.output ≡ length l.initial.output) × g.A.Answers.ready l.a (length l.output)

abbrev pub decreases-loop-end : goal.decreases-loop-end
decreases-loop-end g l = length l.input - l.start
