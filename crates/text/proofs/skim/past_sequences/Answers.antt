use Rattle.text.proofs.SkimLaws.{stays, onward, past_one, past_two, past_three, past_four}
use native.Mathlib.Omega.{arith}
use Rattle.text.proofs.skim.past_sequences.Goals as goal

pub loop-i-init : goal.loop-i-init
loop-i-init c = stays c.args.s.now c.args.from c.requires.0

pub loop-i-smaller-then-b-lt128 : goal.loop-i-smaller-then-b-lt128
loop-i-smaller-then-b-lt128 c = omega (arith, c.past_run-i.ensures.0.0)

pub loop-i-preserved-then-b-lt128 : goal.loop-i-preserved-then-b-lt128
loop-i-preserved-then-b-lt128 c = onward c.args.s.now _ _ _ c.loop-i.invariant (onward c.args.s.now _ _ _ (past_one c.args.s.now c.loop-i.i (omega arith) c.in-0-to-127.if-b-lt128-own.true) c.past_run-i.ensures.0)

pub loop-i-smaller-then-b-lt224 : goal.loop-i-smaller-then-b-lt224
loop-i-smaller-then-b-lt224 c = omega (arith, c.past_twos-i.ensures.0)

pub loop-i-preserved-then-b-lt224 : goal.loop-i-preserved-then-b-lt224
loop-i-preserved-then-b-lt224 c = onward c.args.s.now _ _ _ c.loop-i.invariant (onward c.args.s.now _ _ _ (past_two c.args.s.now c.loop-i.i (omega arith) (c.two.ensures c.if-not-two.false)) c.past_twos-i.ensures)

pub loop-i-preserved-then-b-lt240 : goal.loop-i-preserved-then-b-lt240
loop-i-preserved-then-b-lt240 c = onward c.args.s.now _ _ _ c.loop-i.invariant (past_three c.args.s.now c.loop-i.i (omega arith) (c.three.ensures c.if-not-three.false))

pub loop-i-preserved : goal.loop-i-preserved
loop-i-preserved c = onward c.args.s.now _ _ _ c.loop-i.invariant (past_four c.args.s.now c.loop-i.i (omega arith) (c.four.ensures c.if-not-four.false))
