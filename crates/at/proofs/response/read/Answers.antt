use mathlib.Core.Path.{◌≡◌, sym, ap, ◌∙◌}
use mathlib.Core.Bool.{true}
use native.Mathlib.Omega.{arith}
use lib.ListN.{drop}
use Rattle.text.specs.Bytes.{part}
use Rattle.text.specs.Utf8.{utf8}
use Rattle.text.proofs.BytesLaws.{part-rest}
use Rattle.text.proofs.FindLaws.{from_at}
use Rattle.at.specs.Refusal.{good}
use Rattle.at.proofs.ResponseLaws.{response_foreign, response_unended, response-short, response_open, response-whole}
use Rattle.at.proofs.response.read.Goals as goal
use Rattle.at.proofs.response.read.Goals.{Else-not-is_utf8}

-- `response::read` meets its contract: the tests of the framing, in their order. Assumes nothing.
valid : (c : Else-not-is_utf8) → utf8 (drop c.args.from c.args.s.now) ≡ true
valid c = rw (← part-rest, ← c.part-whole.ensures, ← c.is_utf8.ensures) c.if-not-is_utf8.false

pub returns-then-not-is_utf8 : goal.returns-then-not-is_utf8
returns-then-not-is_utf8 c = sym (response_foreign _ _ (rw (← part-rest, ← c.part-whole.ensures, ← c.is_utf8.ensures) c.if-not-is_utf8.true))

pub returns-in_default : goal.returns-in_default
returns-in_default c = sym (response_unended _ _ (valid (goal.at.returns-in_default c).Else-not-is_utf8) (sym c.first_crlf.ensures ∙ c.in_default.is))

pub overflow_sub-n : goal.overflow_sub-n
overflow_sub-n c = let r = from_at _ _ _ _ (sym c.first_crlf.ensures ∙ c.in-Some.is) in omega arith

pub returns-then-n-i-lt4 : goal.returns-then-n-i-lt4
returns-then-n-i-lt4 c = sym (response-short _ _ (valid (goal.at.returns-then-n-i-lt4 c).Else-not-is_utf8) _ (sym c.first_crlf.ensures ∙ c.in-Some.is) c.if-n-i-lt4.true)

pub returns-then-starts_at : goal.returns-then-starts_at
unfolding part
returns-then-starts_at c = let e = sym c.first_crlf.ensures ∙ c.in-Some.is in
    let f = sym c.starts_at.ensures ∙ c.if-starts_at.true in
    let w = response-whole _ _ (valid (goal.at.returns-then-starts_at c).Else-not-is_utf8) _ e c.if-n-i-lt4.false f in
    ap good c.body.ensures ∙ rw c.part.ensures (sym w)

pub returns-else-starts_at : goal.returns-else-starts_at
returns-else-starts_at c = let e = sym c.first_crlf.ensures ∙ c.in-Some.is in
    sym (response_open _ _ (valid (goal.at.returns-else-starts_at c).Else-not-is_utf8) _ e c.if-n-i-lt4.false (sym c.starts_at.ensures ∙ c.if-starts_at.false))
