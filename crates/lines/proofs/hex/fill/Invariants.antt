use Rattle.std.proofs.Common.{◌≡◌, length, take, drop}
use Rattle.lines.specs.Hex.{prepend, pairs}
use Rattle.lines.proofs.hex.fill.Given as goal

-- `fill` meets its contract: the bytes put so far, before what is left spells, are what the text spells, and the rest of the buffer is as it was.
abbrev pub invariant-loop-to : goal.invariant-loop-to
invariant-loop-to l =
    (length l.to-items ≡ length l.initial.to-items) × (pairs l.s ≡ prepend (take l.to-index l.to-items) (pairs l.left)) × (drop l.to-index l.to-items ≡ drop l.to-index l.initial.to-items)
