use Rattle.text.proofs.SkimLaws.{stays, onward, past_bounded}
use native.Mathlib.Omega.{arith}
use lib.ListN.{length}
use Prim.Native.Nat.{◌+◌, ◌-◌}
use mathlib.Core.Path.{◌≡◌}
use Rattle.text.proofs.skim.skim.Goals as goal

pub returns-then-len-lt4 : goal.returns-then-len-lt4
returns-then-len-lt4 c = stays c.args.s.now 0 (omega arith)

pub loop-i-init : goal.loop-i-init
loop-i-init c = stays c.args.s.now 0 (omega arith)

pub loop-i-preserved-then-highest-lt128 : goal.loop-i-preserved-then-highest-lt128
loop-i-preserved-then-highest-lt128 c = onward c.args.s.now _ _ _ c.loop-i.invariant (past_bounded c.args.s.now c.loop-i.i 128 _ (omega arith) c.if-highest-lt128.true c.highest.ensures)

pub returns-then-i-end : goal.returns-then-i-end
returns-then-i-end c = onward c.args.s.now _ _ _ c.loop-i.invariant c.past_sequences-i.ensures

pub loop-i-smaller : goal.loop-i-smaller
loop-i-smaller c = omega (arith, c.past_sequences-i.ensures.1)

pub loop-i-preserved : goal.loop-i-preserved
loop-i-preserved c = onward c.args.s.now _ _ _ c.loop-i.invariant c.past_sequences-i.ensures

pub returns-then-highest-lt128-2 : goal.returns-then-highest-lt128-2
returns-then-highest-lt128-2 c = let z : c.loop-i.i + ((length c.args.s.now) - c.loop-i.i) ≡ (length c.args.s.now) = omega arith in onward c.args.s.now _ _ _ c.loop-i.invariant (rw z at (past_bounded c.args.s.now c.loop-i.i ((length c.args.s.now) - c.loop-i.i) _ (omega arith) c.if-highest-lt128-2.true c.highest-2.ensures))

pub returns : goal.returns
returns c = onward c.args.s.now _ _ _ c.loop-i.invariant c.past_sequences.ensures
