use Prim.Native.Nat.{◌+◌, ◌≤◌}
use mathlib.Core.Path.{◌≡◌}
use lib.ListN.{length, take}
use Rattle.text.specs.Put.{placed}
use Rattle.at.specs.Parts.{values_of}
use Rattle.abi.specs.Row.{values_numbers}
use Rattle.abi.proofs.row.put_event.Given as goal

-- `row::put_event` meets its contract: what stands in the row is the number of the event's row and the values put so far. Assumes nothing.
abbrev pub invariant-loop-i : goal.invariant-loop-i
invariant-loop-i l =
    (length l.row ≡ length l.initial.row) × (l.to ≤ l.at + 1 + (l.i + l.i)) × (l.to ≡ l.at + 1 + length (values_numbers (take l.i (values_of l.p))))
    × (l.row ≡ placed l.initial.row (l.at + 1) (values_numbers (take l.i (values_of l.p))))
