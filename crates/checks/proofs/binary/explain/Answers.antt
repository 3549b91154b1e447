use mathlib.Core.Path.{sym, ap, ◌∙◌}
use Rattle.std.specs.Prelude.{Ok}
use Rattle.at.specs.W36.{shown_binary}
use Rattle.checks.proofs.ExplainLaws.{binary-none, binary-accepted, binary-refused}
use Rattle.checks.proofs.binary.explain.Goals as goal

pub returns-in-Ok-None : goal.returns-in-Ok-None
returns-in-Ok-None c = let a = c.args in
    let r = c.in-Ok-None.is ∙ ap Ok c.in-Ok-None.field-0-is in
    binary-none a.s.now a.from (sym c.try_parse_binary.ensures ∙ ap shown_binary r)

pub returns-in-Ok-Some : goal.returns-in-Ok-Some
returns-in-Ok-Some c = let a = c.args in
    let r = c.in-Ok-Some.is ∙ ap Ok c.in-Ok-Some.field-0-is in
    rw c.over.ensures (binary-accepted a.s.now a.from _ _ (sym c.try_parse_binary.ensures ∙ ap shown_binary r) c.shape_of-shape.ensures)

pub returns-in-Err : goal.returns-in-Err
returns-in-Err c = let a = c.args in rw c.refuses.ensures (binary-refused a.s.now a.from _ _ _ (sym c.try_parse_binary.ensures ∙ ap shown_binary c.in-Err.is) c.reason_of.ensures)
