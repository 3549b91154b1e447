use Prim.Native.Nat.{◌-◌}
use mathlib.Core.Path.{◌≡◌}
use Rattle.text.specs.FieldSteps.{left}
use Rattle.checks.specs.Steps.{start_no}
use Rattle.checks.proofs.field.nth_start.Given as goal

-- `field::nth_start` meets its contract.
abbrev pub invariant-loop : goal.invariant-loop
invariant-loop l = start_no (l.field - 1) (left l.s (record { at = l.start })) ≡ start_no (l.field - l.counter) (left l.s (record { at = l.at }))
