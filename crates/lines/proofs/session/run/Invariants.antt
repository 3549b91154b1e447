use Rattle.std.proofs.Common.{◌≡◌, length}
use Rattle.lines.proofs.session.run.Given as goal

-- `run` meets its contract: the buffers keep their sizes, and the answerer can go on.
abbrev pub invariant-loop : goal.invariant-loop
invariant-loop g l = (length l.input ≡ length l.initial.input) × (length l.output ≡ length l.initial.output) × g.A.Answers.ready l.a (length l.output)
