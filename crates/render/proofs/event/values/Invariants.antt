use Prim.Native.Nat.{ℕ}
use mathlib.Core.List.{List}
use lib.ListN.{drop}
use Rattle.at.specs.Parts.{values_of}
use Rattle.render.specs.Steps.{kinds_in}
use Rattle.render.specs.Print.{Prints}
use Rattle.render.specs.Words.{values_line}
use Rattle.render.proofs.event.values.Given as goal

-- what completes the values from `i` on completes them all
abbrev pub invariant-loop-i : goal.invariant-loop-i
invariant-loop-i l =
    (r : ℕ) (e : List ℕ)
    → Prints l.buf l.to (values_line (drop l.i (kinds_in l.kinds)) l.src (drop l.i (values_of l.p))) r e
    → Prints l.initial.buf l.at (values_line (kinds_in l.kinds) l.src (values_of l.p)) r e
