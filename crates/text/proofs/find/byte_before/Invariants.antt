use mathlib.Core.List.{[], ◌∷◌}
use Rattle.text.specs.Find.{first_from}
use mathlib.Core.Path.{◌≡◌}
use Rattle.text.proofs.find.byte_before.Given as goal

abbrev pub invariant-loop-i : goal.invariant-loop-i
invariant-loop-i l = first_from (l.b ∷ []) l.s l.from ≡ first_from (l.b ∷ []) l.s l.i
