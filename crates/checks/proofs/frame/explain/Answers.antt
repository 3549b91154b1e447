use mathlib.Core.Path.{sym, ap, ◌∙◌}
use Rattle.edm.specs.Packet.{shown}
use Rattle.checks.proofs.ExplainLaws.{frame-accepted, frame_refused}
use Rattle.checks.proofs.frame.explain.Goals as goal

pub returns-in-Ok : goal.returns-in-Ok
returns-in-Ok c = rw c.over.ensures (frame-accepted c.args.s.now _ _ (sym c.read.ensures ∙ ap shown c.in-Ok.is) c.shape_of.ensures)

pub returns-in-Err : goal.returns-in-Err
returns-in-Err c = rw c.refuses.ensures (frame_refused c.args.s.now _ _ _ (sym c.read.ensures ∙ ap shown c.in-Err.is) c.reason_of.ensures)
