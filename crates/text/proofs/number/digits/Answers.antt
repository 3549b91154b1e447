use Prim.Native.Nat.{◌+◌, ◌-◌}
use mathlib.Core.Path.{◌≡◌, sym, ◌∙◌}
use mathlib.Core.Bool.{true}
use native.Mathlib.Omega.{arith}
use lib.ListN.{length, drop, get_or, length-drop}
use lib.Seq.{take_all}
use borrow.Author.Tests.{eqb-true, eqb-false}
use Rattle.text.specs.Number.{is_digit}
use Rattle.text.proofs.NumberLaws.{too_large_lem, digits_nil, digits_start, digits-end, digits_bad, digits_more, digit-code}
use Rattle.text.proofs.number.digits.Goals as goal
use Rattle.text.proofs.number.digits.Goals.{Else-not-is_digit}

pub returns-then-is_empty : goal.returns-then-is_empty
returns-then-is_empty c = sym (digits_nil c.args.limit c.args.s.now (eqb-true _ _ (sym c.is_empty.ensures ∙ c.if-is_empty.true)))

pub loop-i-init : goal.loop-i-init
loop-i-init c =
    let n = eqb-false _ _ (sym c.is_empty.ensures ∙ c.if-is_empty.false) in
    (omega arith, digits_start c.args.limit 0 c.args.s.now 0 (omega arith))

pub returns-then-not-is_digit : goal.returns-then-not-is_digit
returns-then-not-is_digit c = sym (c.loop-i.invariant.1 ∙ digits_bad c.args.limit c.loop-i.value c.args.s.now c.loop-i.i (omega arith) (sym c.is_digit.ensures ∙ c.if-not-is_digit.true))

-- the byte is a digit
digit : (c : Else-not-is_digit) → is_digit (get_or c.args.s.now c.loop-i.i 0) ≡ true
digit c = sym c.is_digit.ensures ∙ c.if-not-is_digit.false

pub overflow_add-value : goal.overflow_add-value
overflow_add-value c = omega (arith, digit-code (get_or c.args.s.now c.loop-i.i 0) (digit (goal.at.overflow_add-value c).Else-not-is_digit))

pub returns-then-limit-value : goal.returns-then-limit-value
returns-then-limit-value c =
    let a = c.args in
    let l = c.loop-i in
    rw (c.too_large.ensures, take_all (length a.s.now - (l.i + 1)) (drop (l.i + 1) a.s.now) (simp length-drop (omega arith)))
    (sym (l.invariant.1 ∙ digits_more a.limit l.value a.s.now l.i (omega arith) (digit (goal.at.returns-then-limit-value c).Else-not-is_digit)
    ∙ too_large_lem a.limit _ (drop (l.i + 1) a.s.now) (rw c.from.ensures at c.if-limit-value.true)))

pub loop-i-preserved : goal.loop-i-preserved
loop-i-preserved c =
    let a = c.args in
    let l = c.loop-i in
    (c.if-limit-value.false, rw c.from.ensures (l.invariant.1 ∙ digits_more a.limit l.value a.s.now l.i (omega arith) (digit (goal.at.loop-i-preserved c).Else-not-is_digit)))

pub returns : goal.returns
returns c = sym (c.loop-i.invariant.1 ∙ digits-end c.args.limit c.loop-i.value c.args.s.now c.loop-i.i (omega arith) c.loop-i.invariant.0)
