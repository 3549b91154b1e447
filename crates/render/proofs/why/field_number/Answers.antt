use Rattle.render.proofs.PrintLaws.{◌next◌}
use Rattle.render.proofs.why.field_number.Goals as goal

-- `why::field_number` meets its contract. Assumes nothing.
pub returns : goal.returns
returns c = c.word-at.ensures next c.number.ensures
