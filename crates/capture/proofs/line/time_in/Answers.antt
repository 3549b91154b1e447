use Rattle.capture.specs.Line.{stamp_in}
use Rattle.capture.proofs.line.time_in.Goals as goal

-- `line::time_in` meets its contract. Assumes nothing.
pub returns-in_err-whole : goal.returns-in_err-whole
unfolding stamp_in
returns-in_err-whole c = rw (c.from_residual.ensures, ← c.cut_at.ensures, c.in_err-whole.was)

pub returns : goal.returns
unfolding stamp_in
returns c = rw (← c.cut_at.ensures, c.in_ok-whole.was) c.time_of.ensures
