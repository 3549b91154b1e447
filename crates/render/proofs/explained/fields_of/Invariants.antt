use Prim.Native.Nat.{ℕ}
use mathlib.Core.List.{List}
use lib.ListN.{length}
use Rattle.checks.specs.Part.{left}
use Rattle.render.specs.Print.{Prints}
use Rattle.render.specs.Explained.{parts_line}
use Rattle.render.proofs.explained.fields_of.Given as goal

-- What completes the fields that are left completes the whole. It ends, since each step leaves one less.
abbrev pub invariant-loop-p : goal.invariant-loop-p
invariant-loop-p l =
    (r : ℕ) (e : List ℕ) → Prints l.buf l.to (parts_line (left l.src l.walk)) r e → Prints l.initial.buf l.at (parts_line (left l.src l.initial.walk)) r e

abbrev pub decreases-loop-p : goal.decreases-loop-p
decreases-loop-p l = length (left l.src l.walk)
