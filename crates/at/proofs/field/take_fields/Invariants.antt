use Prim.Native.Nat.{suc}
use mathlib.Core.Path.{◌≡◌}
use lib.ListN.{length, take, drop}
use Rattle.text.specs.FieldSteps.{left}
use Rattle.at.specs.Event.{take_kinds}
use Rattle.at.specs.Steps.{kinds_in, values_of}
use Rattle.at.proofs.TakeLaws.{ahead}
use Rattle.at.proofs.field.take_fields.Given as goal

-- `field::take_fields` meets its contract: what is taken from the whole row is the values of the fields so far, and what the rest of the row gives.
-- Assumes nothing.
abbrev pub invariant-loop-i : goal.invariant-loop-i
invariant-loop-i l =
    (length l.fields ≡ 7) × (take_kinds 1 (kinds_in l.kinds) (left l.s (record { at = l.initial.at })) ≡ ahead (values_of (kinds_in (take l.i l.kinds)) 0 l.fields) (take_kinds (suc l.i) (kinds_in (drop l.i l.kinds)) (left l.s (record { at = l.at }))))
