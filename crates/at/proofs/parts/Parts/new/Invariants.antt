use mathlib.Core.Path.{◌≡◌}
use mathlib.Core.List.{◌++◌, replicate}
use lib.ListN.{take, drop}
use Rattle.at.specs.declared.parts.Value.TheVariants.{Number}
use Rattle.at.proofs.parts.Parts.new.Given as goal

-- `parts::Parts::new` meets its contract: what is given stands in front of numbers 0. Assumes nothing.
abbrev pub invariant-loop-i : goal.invariant-loop-i
invariant-loop-i g l = l.values ≡ take l.i l.given ++ drop l.i (replicate 7 (Number 0))
