use Rattle.std.proofs.Common.{sym, refl, ◌∙◌, arith}
use Rattle.at.specs.W36.{event_of}
use Rattle.at.proofs.WalkLaws.{event-moves}
use Rattle.render.proofs.PrintLaws.{prints_then}
use Rattle.replay.proofs.WalkLaws.{walk-event, was-stepped, walk_last}
use Rattle.replay.proofs.walk.every_event.Goals as goal

pub loop-step-init : goal.loop-step-init
loop-step-init c = (refl, λ r e h. rw c.new-walk.ensures at h)

pub loop-step-smaller : goal.loop-step-smaller
loop-step-smaller c =
    let n = c.in-Some.step in
    let w = was-stepped c.next-step.result n (sym c.unwrap_or.ensures ∙ c.in-Some.is) in
    let h = event-moves _ _ n (sym w.1 ∙ c.next-step.ensures) in
    omega (arith, h.0, h.1)

pub loop-step-preserved : goal.loop-step-preserved
loop-step-preserved c =
    let l = c.loop-step in
    let s = c.args.src.now in
    let n = c.in-Some.step in
    let w = was-stepped c.next-step.result n (sym c.unwrap_or.ensures ∙ c.in-Some.is) in
    let line = walk-event s l.walk.at (event_of n.event) n.rest.at (sym w.1 ∙ c.next-step.ensures) in
    let printed = rw w.0 at c.step-to.ensures in (
      c.word-to.auto.buf ∙ c.step-to.auto.buf ∙ l.invariant.0,
      λ r e h. l.invariant.1 r e (rw line (prints_then (prints_then printed c.word-to.ensures) h)),
    )

pub returns-in_default : goal.returns-in_default
returns-in_default c =
    let l = c.loop-step in
    l.invariant.1 _ _ (rw (walk_last c.args.src.now l.walk.at c.next-step.result c.next-step.ensures (sym c.unwrap_or.ensures ∙ c.in_default.is)) c.step-to.ensures)
