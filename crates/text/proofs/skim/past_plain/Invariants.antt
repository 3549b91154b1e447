use Rattle.text.specs.Skim.{WellFormed}
use Rattle.text.proofs.skim.past_plain.Given as goal

abbrev pub invariant-loop-i : goal.invariant-loop-i
invariant-loop-i l = WellFormed l.s l.from l.i
