use native.Mathlib.Omega.{arith}
use native.Mathlib.Nat.{zero-add}
use mathlib.Core.Path.{sym, ◌∙◌}
use Rattle.text.proofs.Utf8Laws.{valid_at-end, valid_stop, valid_step, seq_len-at}
use Rattle.text.proofs.utf8.valid_up_to.Goals as goal

pub loop-i-init : goal.loop-i-init
loop-i-init c = (c.skim-i.ensures.1, sym (zero-add _) ∙ c.skim-i.ensures.2)

pub returns-then-n-eq0 : goal.returns-then-n-eq0
returns-then-n-eq0 c = let z = valid_stop c.args.s.now c.loop-i.i _ c.sequence-n.ensures c.if-n-eq0.true in omega (arith, c.loop-i.invariant.1)

pub overflow_add-i : goal.overflow_add-i
overflow_add-i c = omega (arith, seq_len-at c.args.s.now c.loop-i.i _ c.sequence-n.ensures)

pub loop-i-smaller : goal.loop-i-smaller
loop-i-smaller c = omega (arith, seq_len-at c.args.s.now c.loop-i.i _ c.sequence-n.ensures)

pub loop-i-preserved : goal.loop-i-preserved
loop-i-preserved c = let n = seq_len-at c.args.s.now c.loop-i.i _ c.sequence-n.ensures in let v = valid_step c.args.s.now c.loop-i.i _ c.sequence-n.ensures c.if-n-eq0.false in (omega arith, omega arith)

pub returns : goal.returns
returns c = omega (arith, valid_at-end c.args.s.now c.loop-i.i c.loop-i-test.false)
