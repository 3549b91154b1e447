use Rattle.text.proofs.SkimLaws.{stays, onward, past_bounded}
use native.Mathlib.Omega.{arith}
use Rattle.text.proofs.skim.past_blocks.Goals as goal

pub loop-i-init : goal.loop-i-init
loop-i-init c = (stays c.args.s.now c.args.from (omega arith), c.requires.0)

pub loop-i-preserved : goal.loop-i-preserved
loop-i-preserved c = (onward c.args.s.now _ _ _ c.loop-i.invariant.0 (past_bounded c.args.s.now c.loop-i.i 16 _ (omega arith) c.if-highest-ge128.false c.highest.ensures), omega arith)
