use Prim.Native.Nat.{◌+◌}
use mathlib.Core.Path.{◌≡◌}
use lib.ListN.{length, drop}
use lib.Seq.{paste}
use Rattle.lines.proofs.input.move_to_front.Given as goal

-- `move_to_front` meets its contract: each byte goes to a place before its own, or to its own, so it is read before it is overwritten.
abbrev pub invariant-loop-i : goal.invariant-loop-i
invariant-loop-i l = (l.input ≡ paste l.initial.input 0 (drop l.start l.initial.input) l.i) × (length l.input ≡ length l.initial.input)
