use Rattle.std.proofs.lemmas.Result.{err_from_is_err_and}
use Rattle.at.specs.Event.{read_field}
use borrow.Author.Tests.{ne_eqb}
use Rattle.at.proofs.field.protocol_field.Goals as goal

pub returns-in-1 : goal.returns-in-1
unfolding read_field
returns-in-1 c = λ i p. rw (c.number.ensures, ← c.read.ensures, c.in_ok-read.was, c.in-1.is)

pub returns-in-2 : goal.returns-in-2
unfolding read_field
returns-in-2 c = λ i p. rw (c.number-in-2.ensures, ← c.read.ensures, c.in_ok-read.was, c.in-2.is)

pub returns-in-6 : goal.returns-in-6
unfolding read_field
returns-in-6 c = λ i p. rw (c.number-in-6.ensures, ← c.read.ensures, c.in_ok-read.was, c.in-6.is)

pub returns-in_default : goal.returns-in_default
unfolding read_field
returns-in_default c = λ i p. rw (← c.read.ensures, c.in_ok-read.was, ne_eqb _ 1 c.in_default.in_default-own.rest.0.0.1, ne_eqb _ 2 c.in_default.in_default-own.rest.0.1, ne_eqb _ 6 c.in_default.in_default-own.rest.1)

pub returns-in_err-read : goal.returns-in_err-read
unfolding read_field
returns-in_err-read c = λ i p. let p = err_from_is_err_and c.from_residual.result c.from_residual.ensures.1 in rw (p.1, p.2, ← c.read.ensures, c.in_err-read.was)
