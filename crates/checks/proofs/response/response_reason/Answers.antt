use mathlib.Core.Path.{sym, ◌∙◌}
use Rattle.text.proofs.BytesLaws.{part-rest}
use Rattle.checks.proofs.StartLaws.{found_some, found-none}
use Rattle.checks.proofs.ReasonLaws.{not_eleven, no_last_end, no-first-end}
use Rattle.checks.proofs.response.response_reason.Goals as goal

pub returns-in_default : goal.returns-in_default
returns-in_default c = let e = c.part-t.ensures ∙ part-rest _ _ in
    rw (c.shown_at-in_default.ensures, ← e) (no_last_end _ _ _ (not_eleven _ c.in_default.not-Utf8DecodeFailed) (found_some _ _ _ c.first_crlf.ensures (sym c.is_some.ensures ∙ c.if-is_some.true)))

pub returns-in_default-2 : goal.returns-in_default-2
returns-in_default-2 c = let e = c.part-t.ensures ∙ part-rest _ _ in
    rw (c.shown_at-in_default-2.ensures, ← e) (no-first-end _ _ _ (not_eleven _ c.in_default.not-Utf8DecodeFailed) (found-none _ _ _ c.first_crlf.ensures (sym c.is_some.ensures ∙ c.if-is_some.false)))
