use mathlib.Core.Path.{◌≡◌}
use Prim.Native.Nat.{◌<◌}
use lib.ListN.{drop}
use Rattle.text.specs.Number.{under, digits_from, digits}
use Rattle.text.proofs.number.digits.Given as goal

abbrev pub invariant-loop-i : goal.invariant-loop-i
invariant-loop-i l = (l.value < l.limit) × (digits l.limit l.s ≡ under l.limit (digits_from l.value (drop l.i l.s)))
