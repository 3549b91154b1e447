use Rattle.capture.specs.Line.{content}
use Rattle.capture.proofs.line.before_note.Goals as goal

-- `line::before_note` meets its contract. Assumes nothing.
pub returns-in-Some : goal.returns-in-Some
unfolding content
returns-in-Some c = rw (← c.cut_at.ensures, c.in-Some.is) c.trim.ensures

pub returns-in-None : goal.returns-in-None
unfolding content
returns-in-None c = rw (← c.cut_at.ensures, c.in-None.is) c.trim-in-None.ensures
