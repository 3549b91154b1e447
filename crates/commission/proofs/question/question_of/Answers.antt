use Rattle.commission.specs.Question.{asked}
use Rattle.commission.proofs.question.question_of.Goals as goal

-- `question::question_of` meets its contract. Assumes nothing.
pub returns-then-same : goal.returns-then-same
unfolding asked
returns-then-same c = rw (← c.same.ensures, c.if-same.true)

pub returns-then-same-2 : goal.returns-then-same-2
unfolding asked
returns-then-same-2 c = rw (← c.same.ensures, c.if-same.false, ← c.same-2.ensures, c.if-same-2.true)

pub returns : goal.returns
unfolding asked
returns c = rw (← c.same.ensures, c.if-same.false, ← c.same-2.ensures, c.if-same-2.false) c.with_rest.ensures
