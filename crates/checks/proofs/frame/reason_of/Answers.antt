use Rattle.checks.proofs.ExplainLaws.{at-refusal}
use mathlib.Core.Path.{◌∙◌}
use Rattle.checks.proofs.frame.reason_of.Goals as goal

pub returns-in-AtPacketError : goal.returns-in-AtPacketError
returns-in-AtPacketError c = rw c.in-AtPacketError.is (c.at_reason.ensures ∙ at-refusal c.args.s.now c.in-AtPacketError.a)
