use mathlib.Core.Path.{sym, ◌∙◌}
use native.Mathlib.Omega.{arith}
use Rattle.text.proofs.BytesLaws.{part-rest}
use Rattle.at.specs.Response.{read_body}
use Rattle.at.proofs.ResponseLaws.{last_fits}
use Rattle.at.proofs.response.body.Goals as goal

pub returns-then-same : goal.returns-then-same
unfolding read_body
returns-then-same c = let e = c.part-t.ensures ∙ part-rest _ _ in
    rw (← e, ← c.same.ensures, c.if-same.true)

pub returns-then-same-2 : goal.returns-then-same-2
unfolding read_body
returns-then-same-2 c = let e = c.part-t.ensures ∙ part-rest _ _ in
    rw (← e, ← c.same.ensures, c.if-same.false, ← c.same-2.ensures, c.if-same-2.true)

pub returns-in_default : goal.returns-in_default
unfolding read_body
returns-in_default c = let e = c.part-t.ensures ∙ part-rest _ _ in
    rw (← e, ← c.same.ensures, c.if-same.false, ← c.same-2.ensures, c.if-same-2.false, ← c.last_crlf.ensures, c.in_default.is)

pub overflow_add-i : goal.overflow_add-i
overflow_add-i c = omega (arith, last_fits _ _ (sym c.last_crlf.ensures ∙ c.in-Some.is))

pub returns-then-same-3 : goal.returns-then-same-3
unfolding read_body
returns-then-same-3 c = let e = c.part-t.ensures ∙ part-rest _ _ in
    let f = c.part.ensures ∙ part-rest _ _ in
    rw (
      ← e,
      ← c.same.ensures,
      c.if-same.false,
      ← c.same-2.ensures,
      c.if-same-2.false,
      ← c.last_crlf.ensures,
      c.in-Some.is,
      ← f,
      ← c.same-3.ensures,
      c.if-same-3.true,
    )

pub returns-else-same-3 : goal.returns-else-same-3
unfolding read_body
returns-else-same-3 c = let e = c.part-t.ensures ∙ part-rest _ _ in
    let f = c.part.ensures ∙ part-rest _ _ in
    rw (
      ← e,
      ← c.same.ensures,
      c.if-same.false,
      ← c.same-2.ensures,
      c.if-same-2.false,
      ← c.last_crlf.ensures,
      c.in-Some.is,
      ← f,
      ← c.same-3.ensures,
      c.if-same-3.false,
    )
