use mathlib.Core.Path.{sym}
use native.Mathlib.Omega.{arith}
use Rattle.text.proofs.FieldLaws.{next-done, next_ends}
use Rattle.text.proofs.field.Fields.next.Goals as goal
use Rattle.text.proofs.field.Fields.next.Goals.{After-unwrap_or-end}

pub returns-then-s-at : goal.returns-then-s-at
returns-then-s-at c = sym (next-done c.args.s.now c.args.self c.if-s-at.true)

pub overflow_sub-result : goal.overflow_sub-result
overflow_sub-result c = rw (c.unwrap_or-end.ensures, c.first_byte.ensures) ((next_ends c.args.s.now c.args.self c.if-s-at.false).0)

pub overflow_add-result : goal.overflow_add-result
overflow_add-result c = let e = rw (← c.first_byte.ensures, ← c.unwrap_or-end.ensures) at ((next_ends c.args.s.now c.args.self c.if-s-at.false).1) in omega arith

pub returns : goal.returns
returns c = rw (c.unwrap_or-end.ensures, c.first_byte.ensures) ((next_ends c.args.s.now c.args.self c.if-s-at.false).2)
