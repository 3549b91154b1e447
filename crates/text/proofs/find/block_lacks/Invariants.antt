use mathlib.Core.Bool.{true}
use mathlib.Core.List.{[], ◌∷◌}
use Prim.Native.Nat.{◌+◌}
use Rattle.text.specs.Find.{first_from}
use mathlib.Core.Path.{◌≡◌}
use Rattle.text.proofs.find.block_lacks.Given as goal

abbrev pub invariant-loop-x : goal.invariant-loop-x
invariant-loop-x l = (l.none ≡ true → first_from (l.b ∷ []) l.s l.from ≡ first_from (l.b ∷ []) l.s (l.from + l.x-index))
