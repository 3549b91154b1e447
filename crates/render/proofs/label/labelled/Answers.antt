use Rattle.render.proofs.PrintLaws.{◌next◌}
use Rattle.render.proofs.label.labelled.Goals as goal

-- `label::labelled` meets its contract. Assumes nothing.
pub returns-in-Some : goal.returns-in-Some
returns-in-Some c = rw c.in-Some.is (c.word-at.ensures next c.number.ensures)
