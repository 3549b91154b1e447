use Rattle.replay.specs.Question.{number_then}
use Rattle.replay.proofs.question.number_then.Goals as goal

-- `number_then` meets its contract.
pub returns-in_err-number : goal.returns-in_err-number
unfolding number_then
returns-in_err-number c = rw (c.from_residual.ensures, ← c.cut_at.ensures, c.in_err-number.was)

pub returns-in_err-decimal : goal.returns-in_err-decimal
unfolding number_then
returns-in_err-decimal c = rw (c.from_residual-in_err-decimal.ensures, ← c.cut_at.ensures, c.in_ok-number.was, ← c.decimal.ensures, c.in_err-decimal.was)

pub returns : goal.returns
unfolding number_then
returns c = rw (← c.cut_at.ensures, c.in_ok-number.was, ← c.decimal.ensures, c.in_ok-decimal.was)
