use Rattle.render.proofs.PrintLaws.{◌next◌}
use Rattle.render.proofs.explained.field.Goals as goal

-- `explained::field` meets its contract. Assumes nothing.
pub returns : goal.returns
returns c =
    c.word-at.ensures next c.part_name-at.ensures next c.word-at-2.ensures next c.number-at.ensures next c.word-at-3.ensures
    next c.number.ensures
