use Rattle.render.proofs.PrintLaws.{◌next◌}
use Rattle.render.proofs.field.text_after.Goals as goal

-- `field::text_after` meets its contract. Assumes nothing.
pub returns : goal.returns
returns c = c.word-at.ensures next (rw c.part.ensures at c.hex.ensures)
