use Rattle.text.specs.Skim.{WellFormed}
use Prim.Native.Nat.{◌-◌, ◌≤◌}
use Rattle.text.proofs.skim.past_blocks.Given as goal

abbrev pub invariant-loop-i : goal.invariant-loop-i
invariant-loop-i l = WellFormed l.s l.from l.i × (l.i ≤ l.stop)

abbrev pub decreases-loop-i : goal.decreases-loop-i
decreases-loop-i l = l.stop - l.i
