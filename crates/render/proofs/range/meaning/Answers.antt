use Rattle.render.proofs.PrintLaws.{◌next◌}
use Rattle.render.proofs.range.meaning.Goals as goal

-- `range::meaning` meets its contract. Assumes nothing.
pub returns : goal.returns
returns c = c.range-at.ensures next c.word-at.ensures next (rw c.read.ensures at c.answer.ensures)
