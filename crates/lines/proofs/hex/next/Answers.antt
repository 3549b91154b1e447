use Rattle.std.proofs.Common.{sym, ◌∙◌, length, ◌-◌, take, drop, get_or, arith, List, ℕ}
use Rattle.std.proofs.lemmas.Result.{err_from_is_err_and}
use Rattle.lines.proofs.HexLaws.{spaces_alone, spaces-before, pairs_single, pairs_two, digit-taken, digit-refused}
use Rattle.lines.proofs.hex.next.Goals as goal

-- `next` meets its contract.
pub returns-in_default-clause-step : goal.returns-in_default-clause-step
returns-in_default-clause-step c = spaces_alone c.args.s.now (sym c.in_default.is ∙ c.past_spaces.ensures)

abbrev text : List ℕ → ℕ → List ℕ
text s i = take (length s - i) (drop i s)

pub returns-in_default-2-clause-step : goal.returns-in_default-2-clause-step
returns-in_default-2-clause-step c =
    let s = c.args.s.now in
    let b = spaces-before s c.in-Some.i (sym c.in-Some.is ∙ c.past_spaces.ensures) in
    pairs_single (text s c.in-Some.i) b.0 b.1 c.in_default-2.len_below ∙ b.2

pub returns-in_err-high-clause-step : goal.returns-in_err-high-clause-step
returns-in_err-high-clause-step c =
    let s = c.args.s.now in
    let t = text s c.in-Some.i in
    let b = spaces-before s c.in-Some.i (sym c.in-Some.is ∙ c.past_spaces.ensures) in
    let h = digit-refused (get_or t 0 0) c.in_err-high.field-0.0 (sym c.in_err-high.was ∙ c.digit.ensures) in
    let p = err_from_is_err_and c.from_residual.result c.from_residual.ensures.1 in
    rw p.1 ((rw h.0 at (pairs_two t b.0 c.in-len2-up.len_at_least)) ∙ b.2)

pub returns-in_err-low-clause-step : goal.returns-in_err-low-clause-step
returns-in_err-low-clause-step c =
    let s = c.args.s.now in
    let t = text s c.in-Some.i in
    let b = spaces-before s c.in-Some.i (sym c.in-Some.is ∙ c.past_spaces.ensures) in
    let h = digit-taken (get_or t 0 0) c.in_ok-high.high (sym c.in_ok-high.was ∙ c.digit.ensures) in
    let l = digit-refused (get_or t 1 0) c.in_err-low.field-0.0 (sym c.in_err-low.was ∙ c.digit-2.ensures) in
    let p = err_from_is_err_and c.from_residual-in_err-low.result c.from_residual-in_err-low.ensures.1 in
    rw p.1 ((rw (h.0, l.0) at (pairs_two t b.0 c.in-len2-up.len_at_least)) ∙ b.2)

pub overflow_mul-value : goal.overflow_mul-value
overflow_mul-value c =
    let h = digit-taken (get_or (text c.args.s.now c.in-Some.i) 0 0) c.in_ok-high.high (sym c.in_ok-high.was ∙ c.digit.ensures) in
    omega (arith, h.2)

pub overflow_add-value : goal.overflow_add-value
overflow_add-value c =
    let t = text c.args.s.now c.in-Some.i in
    let h = digit-taken (get_or t 0 0) c.in_ok-high.high (sym c.in_ok-high.was ∙ c.digit.ensures) in
    let l = digit-taken (get_or t 1 0) c.in_ok-low.low (sym c.in_ok-low.was ∙ c.digit-2.ensures) in
    omega (arith, h.2, l.2)

pub returns-clause-step : goal.returns-clause-step
returns-clause-step c =
    let s = c.args.s.now in
    let t = text s c.in-Some.i in
    let b = spaces-before s c.in-Some.i (sym c.in-Some.is ∙ c.past_spaces.ensures) in
    let h = digit-taken (get_or t 0 0) c.in_ok-high.high (sym c.in_ok-high.was ∙ c.digit.ensures) in
    let l = digit-taken (get_or t 1 0) c.in_ok-low.low (sym c.in_ok-low.was ∙ c.digit-2.ensures) in
    rw (h.1, l.1) ((rw (h.0, l.0) at (pairs_two t b.0 c.in-len2-up.len_at_least)) ∙ b.2)
