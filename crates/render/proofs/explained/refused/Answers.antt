use Rattle.render.proofs.PrintLaws.{◌next◌}
use Rattle.render.proofs.explained.refused.Goals as goal

-- `explained::refused` meets its contract. Assumes nothing.
pub returns : goal.returns
returns c =
    let name = rw c.refusal_name.ensures at c.word-at-3.ensures in
    c.word-at.ensures next c.number-at.ensures next c.word-at-2.ensures next name next c.place_after-at.ensures
    next c.word-at-4.ensures next c.check_name.ensures
