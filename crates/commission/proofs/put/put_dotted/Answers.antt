use Rattle.render.proofs.PrintLaws.{prints_then}
use Rattle.commission.proofs.put.put_dotted.Goals as goal

-- `put::put_dotted` meets its contract. Assumes nothing.
pub returns : goal.returns
returns c =
    prints_then (prints_then (prints_then (prints_then (prints_then (prints_then c.number-a.ensures c.word-b.ensures) c.number-c.ensures) c.word-d.ensures) c.number-e.ensures) c.word-f.ensures) c.number.ensures
