use mathlib.Core.Path.{◌≡◌}
use lib.ListN.{drop}
use Rattle.text.specs.Bytes.{same}
use Rattle.text.proofs.bytes.starts_at.Given as goal

abbrev pub invariant-loop-i : goal.invariant-loop-i
invariant-loop-i l = same l.p l.t ≡ same (drop l.i l.p) (drop l.i l.t)
