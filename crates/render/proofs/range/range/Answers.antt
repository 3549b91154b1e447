use Rattle.render.proofs.PrintLaws.{◌next◌}
use Rattle.render.proofs.range.range.Goals as goal

-- `range::range` meets its contract. Assumes nothing.
pub returns : goal.returns
returns c = c.mark-at.ensures next c.number-at.ensures next c.word-at.ensures next c.number.ensures
