use mathlib.Core.Path.{◌≡◌}
use Prim.Native.Nat.{◌+◌}
use lib.ListN.{length}
use Rattle.text.specs.Decimal.{decimal}
use Rattle.text.specs.Put.{placed}
use Rattle.text.proofs.DecimalLaws.{filled}
use Rattle.text.proofs.decimal.fill.Given as goal

-- what is left of the number still goes between its place and `i`
abbrev pub invariant-loop-i : goal.invariant-loop-i
invariant-loop-i l = (l.i ≡ l.at + length (decimal l.m)) × (filled l.buf l.at l.i l.m ≡ placed l.initial.buf l.at (decimal l.n))
