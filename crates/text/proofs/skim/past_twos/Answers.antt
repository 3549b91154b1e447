use Rattle.text.proofs.SkimLaws.{stays, onward, past_two}
use native.Mathlib.Omega.{arith}
use Rattle.text.proofs.skim.past_twos.Goals as goal

pub loop-i-init : goal.loop-i-init
loop-i-init c = stays c.args.s.now c.args.from c.requires.0

pub loop-i-preserved : goal.loop-i-preserved
loop-i-preserved c = onward c.args.s.now _ _ _ c.loop-i.invariant (past_two c.args.s.now c.loop-i.i (omega arith) (c.two.ensures c.if-not-two.false))
