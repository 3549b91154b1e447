use Rattle.render.proofs.PrintLaws.{prints_then}
use Rattle.dump.specs.Total.{total_line}
use Rattle.dump.proofs.total.total_line.Goals as goal

-- `total::total_line` meets its contract. Assumes nothing.
pub returns : goal.returns
unfolding total_line
returns c =
    let counted = prints_then c.frames-a.ensures c.number-b.ensures in
    let sized = prints_then (prints_then counted c.word-c.ensures) c.number-d.ensures in
    let percent = rw c.hundredths.ensures at c.percent-f.ensures in
    prints_then (prints_then (prints_then sized c.word-e.ensures) percent) c.word.ensures
