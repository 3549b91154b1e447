use native.Mathlib.Omega.{arith}
use mathlib.Core.Path.{refl, ◌∙◌}
use Rattle.text.proofs.find.past_blocks.Goals as goal

pub loop-i-init : goal.loop-i-init
loop-i-init c = (c.requires, refl)

pub loop-i-preserved : goal.loop-i-preserved
loop-i-preserved c = (omega arith, c.loop-i.invariant.1 ∙ c.block_lacks.ensures c.if-not-block_lacks.false)
