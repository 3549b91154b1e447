use Rattle.render.proofs.PrintLaws.{prints_then}
use Rattle.replay.proofs.answer.what.Goals as goal

-- `what` meets its contract.
pub returns : goal.returns
returns c = prints_then c.word-next.ensures c.number.ensures
