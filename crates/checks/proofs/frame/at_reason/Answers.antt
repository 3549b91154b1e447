use mathlib.Core.Path.{sym, ◌∙◌}
use native.Mathlib.Omega.{arith}
use Rattle.checks.proofs.ReasonLaws.{response-is, not-response, in_response, in_event}
use Rattle.checks.proofs.PlaceLaws.{without_last, payload_here}
use Rattle.checks.proofs.frame.at_reason.Goals as goal

pub returns-in-69 : goal.returns-in-69
returns-in-69 c = let i = sym c.identifier.ensures ∙ c.in-69.is in
    let t = payload_here c.args.s.now _ (without_last c.args.s.now _ _ c.saturating_sub.ensures c.part-t.ensures) in
    c.response_reason.ensures ∙ rw t (in_response _ _ (rw i response-is))

pub returns-in_default : goal.returns-in_default
returns-in_default c = let t = payload_here c.args.s.now _ (without_last c.args.s.now _ _ c.saturating_sub.ensures c.part-t.ensures) in
    c.line_reason.ensures ∙ rw t (in_event _ _ (not-response _ (λ q. omega (arith, c.identifier.ensures, q))))
