use mathlib.Core.List.{[], ◌∷◌}
use Rattle.text.proofs.FindLaws.{from-yes, from-no, byte_here, byte_other}
use native.Mathlib.Omega.{arith}
use mathlib.Core.Path.{◌≡◌, ◌∙◌}
use Rattle.text.proofs.find.byte_before.Goals as goal

pub returns-then-s-i : goal.returns-then-s-i
returns-then-s-i c = c.loop-i.invariant ∙ from-yes (c.args.b ∷ []) c.args.s.now c.loop-i.i (omega arith) (byte_here c.args.s.now c.loop-i.i c.args.b (omega arith) c.if-s-i.true)

pub loop-i-preserved : goal.loop-i-preserved
loop-i-preserved c = c.loop-i.invariant ∙ from-no (c.args.b ∷ []) c.args.s.now c.loop-i.i (omega arith) (byte_other c.args.s.now c.loop-i.i c.args.b [] (omega arith) c.if-s-i.false)

pub returns : goal.returns
returns c = let e : c.loop-i.i ≡ c.args.stop = omega arith in c.loop-i.invariant ∙ rw e
