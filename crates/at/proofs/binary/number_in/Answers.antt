use Rattle.at.specs.Event.{read_field}
use Rattle.at.proofs.binary.number_in.Goals as goal

pub returns-in-Ok : goal.returns-in-Ok
unfolding read_field
returns-in-Ok g c = λ p. rw (← c.read.ensures, c.in-Ok.is)

pub returns-in-Err : goal.returns-in-Err
unfolding read_field
returns-in-Err g c = λ p. rw (c.invalid.ensures, ← c.read.ensures, c.in-Err.is)
