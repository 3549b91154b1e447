use mathlib.Core.Path.{◌≡◌, ◌∙◌}
use Prim.Native.Nat.{◌+◌}
use native.Mathlib.Omega.{arith}
use lib.ListN.{length-drop}
use Rattle.checks.proofs.StartLaws.{part_front}
use Rattle.checks.proofs.PlaceLaws.{text-ends}
use Rattle.checks.proofs.w36.ATEventLine.text_end.Goals as goal

pub returns : goal.returns
returns c = λ h. let a = c.args in
    let m : c.saturating_add.result ≡ a.from + 2 = omega (arith, c.saturating_add.ensures, length-drop a.from a.s.now, h) in
    let e = c.part.ensures ∙ part_front _ _ ∙ rw c.saturating_sub-n.ensures in
    rw (c.unwrap_or.ensures, c.saturating_sub-n.ensures) (text-ends a.s.now a.from c.part.result.now e _ (c.first_crlf.ensures ∙ rw m) h)
