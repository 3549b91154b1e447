use Rattle.text.proofs.SkimLaws.{stays, onward, past_one}
use mathlib.Core.Path.{◌≡◌}
use native.Mathlib.Omega.{arith}
use Rattle.text.proofs.skim.past_plain.Goals as goal

pub loop-i-init : goal.loop-i-init
loop-i-init c = stays c.args.s.now c.args.from (omega arith)

pub returns-then-s-i-ge128 : goal.returns-then-s-i-ge128
returns-then-s-i-ge128 c = (c.loop-i.invariant, omega arith)

pub loop-i-preserved : goal.loop-i-preserved
loop-i-preserved c = onward c.args.s.now _ _ _ c.loop-i.invariant (past_one c.args.s.now c.loop-i.i (omega arith) c.if-s-i-ge128.false)

pub returns : goal.returns
returns c = let e : c.loop-i.i ≡ c.args.stop = omega arith in (rw e at c.loop-i.invariant, omega arith)
