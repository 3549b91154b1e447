use Rattle.at.specs.Event.{read_field}
use Rattle.at.proofs.field.bt_type_field.Goals as goal

pub returns-then-same : goal.returns-then-same
unfolding read_field
returns-then-same c = λ i p. rw (← c.same.ensures, c.if-same.true)

pub returns : goal.returns
unfolding read_field
returns c = λ i p. rw (← c.same.ensures, c.if-same.false)
