use Rattle.render.proofs.PrintLaws.{◌next◌}
use Rattle.render.proofs.explained.accepted.Goals as goal

-- `explained::accepted` meets its contract. Assumes nothing.
pub returns : goal.returns
returns c = c.word-at.ensures next c.fields_of.ensures
