use Rattle.at.specs.Event.{read_field}
use Rattle.at.proofs.field.ip_type_field.Goals as goal

pub returns-then-same : goal.returns-then-same
unfolding read_field
returns-then-same c = λ i p. rw (c.number.ensures, ← c.same.ensures, c.if-same.true)

pub returns-then-same-2 : goal.returns-then-same-2
unfolding read_field
returns-then-same-2 c = λ i p. rw (c.number-then-same-2.ensures, ← c.same.ensures, c.if-same.false, ← c.same-2.ensures, c.if-same-2.true)

pub returns : goal.returns
unfolding read_field
returns c = λ i p. rw (← c.same.ensures, c.if-same.false, ← c.same-2.ensures, c.if-same-2.false)
