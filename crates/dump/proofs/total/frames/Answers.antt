use Rattle.render.proofs.PrintLaws.{prints_then}
use Rattle.dump.proofs.total.frames.Goals as goal

-- `total::frames` meets its contract. Assumes nothing.
pub returns : goal.returns
returns c =
    let begun = prints_then c.word-a.ensures c.number-b.ensures in
    prints_then (prints_then (prints_then begun c.word-c.ensures) c.number-d.ensures) c.word.ensures
