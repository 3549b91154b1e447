use mathlib.Core.Path.{sym, ap, ◌∙◌}
use Rattle.at.specs.Response.{shown}
use Rattle.checks.proofs.ExplainLaws.{response-accepted, response-refused}
use Rattle.checks.proofs.response.explain.Goals as goal

pub returns-in-Ok : goal.returns-in-Ok
returns-in-Ok c = let a = c.args in rw c.over.ensures (response-accepted a.s.now a.from _ _ (sym c.read.ensures ∙ ap shown c.in-Ok.is) c.shape_of.ensures)

pub returns-in-Err : goal.returns-in-Err
returns-in-Err c = let a = c.args in rw c.refuses.ensures (response-refused a.s.now a.from _ _ _ (sym c.read.ensures ∙ ap shown c.in-Err.is) c.response_reason.ensures)
