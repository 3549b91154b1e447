use Rattle.text.specs.Skim.{WellFormed}
use Prim.Native.Nat.{◌-◌}
use Rattle.text.proofs.skim.skim.Given as goal

abbrev pub invariant-loop-i : goal.invariant-loop-i
invariant-loop-i l = WellFormed l.s 0 l.i

abbrev pub decreases-loop-i : goal.decreases-loop-i
decreases-loop-i l = l.len - l.i
