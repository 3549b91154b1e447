use mathlib.Core.Path.{sym, ◌∙◌}
use native.Mathlib.Omega.{arith}
use Rattle.checks.proofs.ReasonLaws.{connect_is, not_connect, short_connect, short-data}
use Rattle.checks.proofs.frame.size_reason.Goals as goal

pub returns-in-17 : goal.returns-in-17
returns-in-17 c = let i = sym c.identifier.ensures ∙ c.in-17.is in
    λ n. rw (c.shown_at-in-17.ensures, c.payload.ensures) (short_connect _ n c.if-n-lt6.false (rw i connect_is))

pub returns-in_default : goal.returns-in_default
returns-in_default c = λ n. rw (c.shown_at-in_default.ensures, c.payload.ensures) (short-data _ n c.if-n-lt6.false (not_connect _ (λ q. omega (arith, c.identifier.ensures, q))))
