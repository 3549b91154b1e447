use Rattle.render.proofs.PrintLaws.{◌next◌}
use Rattle.render.proofs.why.wrong_field.Goals as goal

-- `why::wrong_field` meets its contract. Assumes nothing.
pub returns : goal.returns
returns c = c.field_number-at.ensures next c.reason.ensures
