use Rattle.render.proofs.PrintLaws.{prints-none, ◌next◌}
use Rattle.render.proofs.why.frame.Goals as goal

-- `why::frame` meets its contract. Assumes nothing.
pub returns-in-Ok : goal.returns-in-Ok
returns-in-Ok c = rw c.in-Ok.is ((rw c.in-Ok.is at c.answer-at.ensures) next prints-none _ _)

pub returns-in-Err : goal.returns-in-Err
returns-in-Err c = rw c.in-Err.is ((rw c.in-Err.is at c.answer-at.ensures) next c.of_frame.ensures)
