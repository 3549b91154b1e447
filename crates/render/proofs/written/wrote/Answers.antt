use Rattle.render.proofs.PrintLaws.{◌next◌}
use Rattle.render.proofs.written.wrote.Goals as goal

-- `written::wrote` meets its contract. Assumes nothing.
pub returns : goal.returns
returns c =
    let bytes = rw c.part.ensures at c.hex.ensures in
    c.word-at.ensures next c.number-at.ensures next c.word-at-2.ensures next bytes
