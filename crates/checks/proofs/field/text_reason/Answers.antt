use Prim.Native.Nat.{◌+◌}
use lib.ListN.{length, drop}
use Rattle.text.specs.FieldSteps.{left}
use Rattle.checks.proofs.ReasonLaws.{of-type}
use Rattle.checks.proofs.field.text_reason.Goals as goal

pub returns-in-TypeDecodeUnsupported : goal.returns-in-TypeDecodeUnsupported
returns-in-TypeDecodeUnsupported c = let a = c.args in
    rw (c.shown_at-in-TypeDecodeUnsupported.ensures, c.nth_start-in-TypeDecodeUnsupported.ensures) (of-type a.start (a.start + length (drop a.start a.s.now)) (left a.s.now (record { at = a.at })) a.e c.in-TypeDecodeUnsupported.is)
