use Rattle.render.proofs.PrintLaws.{◌next◌}
use Rattle.render.proofs.field.number_after.Goals as goal

-- `field::number_after` meets its contract. Assumes nothing.
pub returns : goal.returns
returns c = c.word-at.ensures next c.number.ensures
