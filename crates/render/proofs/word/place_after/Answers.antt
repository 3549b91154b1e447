use Rattle.render.proofs.PrintLaws.{◌next◌}
use Rattle.render.proofs.word.place_after.Goals as goal

-- `word::place_after` meets its contract. Assumes nothing.
pub returns : goal.returns
returns c = c.word-at.ensures next c.number.ensures
