use Rattle.render.proofs.CountLaws.{count-plain}
use Rattle.render.proofs.word.number.Goals as goal

-- `word::number` meets its contract. Assumes nothing.
pub returns : goal.returns
returns c =
    let digits = c.decimal-k.ensures in
    rw (digits.digits, count-plain _ _ digits.len) at c.word.ensures
