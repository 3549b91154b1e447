use Rattle.render.proofs.PrintLaws.{prints_then}
use Rattle.dump.proofs.total.percent.Goals as goal

-- `total::percent` meets its contract. Assumes nothing.
pub returns : goal.returns
returns c = prints_then c.number-next.ensures c.word.ensures
