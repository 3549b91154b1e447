use native.Mathlib.Omega.{arith}
use mathlib.Core.Path.{◌≡◌, sym, ◌∙◌}
use Prim.Native.Nat.{◌-◌}
use Rattle.text.proofs.DecimalLaws.{some_digit, one_digit, more_digits, long_more, filled-whole, filled_more, filled_last}
use Rattle.text.proofs.decimal.fill.Goals as goal

pub loop-i-init : goal.loop-i-init
loop-i-init c = (sym c.requires.0, filled-whole c.args.buf.now c.args.at c.args.end c.args.n (sym c.requires.0))

pub loop-i-preserved : goal.loop-i-preserved
loop-i-preserved c =
    let l = c.loop-i in
    let g = more_digits l.m (omega arith) in
    (omega (arith, long_more l.m g), filled_more l.buf c.args.at l.i l.m (omega arith) (omega arith) g ∙ l.invariant.1)

pub overflow_cast-buf-2 : goal.overflow_cast-buf-2
overflow_cast-buf-2 c = omega (arith, one_digit c.loop-i.m (omega arith))

pub overflow_add-buf-2 : goal.overflow_add-buf-2
overflow_add-buf-2 c = omega (arith, one_digit c.loop-i.m (omega arith))

pub bounds-buf-at : goal.bounds-buf-at
bounds-buf-at c = omega (arith, some_digit c.loop-i.m)

pub returns : goal.returns
returns c =
    let l = c.loop-i in
    let d = some_digit l.m in
    let e : l.i - 1 ≡ c.args.at = omega arith in
    (rw e at (filled_last l.buf c.args.at l.i l.m (omega arith) (omega arith) (one_digit l.m (omega arith)) e)) ∙ l.invariant.1
