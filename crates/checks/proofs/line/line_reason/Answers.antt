use mathlib.Core.Path.{◌∙◌}
use Rattle.text.proofs.BytesLaws.{part-rest}
use Rattle.checks.proofs.PlaceLaws.{kept_matters}
use Rattle.checks.proofs.StartLaws.{part_front}
use Rattle.checks.proofs.ReasonLaws.{not_eleven, not_twelve, no_text, in_text_lem}
use Rattle.checks.proofs.line.line_reason.Goals as goal

pub returns-in_default : goal.returns-in_default
returns-in_default g c = let e = c.part-line.ensures ∙ part-rest _ _ in
    c.framing_reason-in_default.ensures _ ∙ no_text _ _ _ _ (not_eleven _ c.in_default.not-Utf8DecodeFailed) (not_twelve _ c.in_default.not-FramingDecodeFailed) (rw e at c.if-line-lt2.true)

pub returns-in_default-2 : goal.returns-in_default-2
returns-in_default-2 g c = let e = c.part-line.ensures ∙ part-rest _ _ in
    let t = c.part-text.ensures ∙ part_front _ _ in
    c.text_reason.ensures
    ∙ rw (c.fields_after.ensures, t)
    (in_text_lem _ _ _ _ (not_eleven _ c.in_default.not-Utf8DecodeFailed) (not_twelve _ c.in_default.not-FramingDecodeFailed) (rw e at c.if-line-lt2.false))
    ∙ kept_matters _ _ _ _ _ c.text_end.ensures
