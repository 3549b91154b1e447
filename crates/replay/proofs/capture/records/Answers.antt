use Rattle.std.proofs.Common.{sym, refl, ◌∙◌, arith}
use Rattle.render.proofs.PrintLaws.{prints_then}
use Rattle.replay.proofs.CaptureLaws.{run-found, was-found, run_last}
use Rattle.replay.proofs.capture.records.Goals as goal

pub loop-r-init : goal.loop-r-init
loop-r-init c = (refl, λ r e h. h)

pub loop-r-smaller : goal.loop-r-smaller
loop-r-smaller c =
    let a = c.args in
    let r = c.in-Some.r in
    let w = was-found c.read_record-a.result r (sym c.unwrap_or.ensures ∙ c.in-Some.is) in
    let f = run-found a.order a.src.now c.loop-r.at r.seconds r.microseconds r.start r.len r.next (sym w.1 ∙ c.read_record-a.ensures) in
    omega (arith, f.1, f.2)

pub loop-r-preserved : goal.loop-r-preserved
loop-r-preserved c =
    let a = c.args in
    let l = c.loop-r in
    let r = c.in-Some.r in
    let w = was-found c.read_record-a.result r (sym c.unwrap_or.ensures ∙ c.in-Some.is) in
    let f = run-found a.order a.src.now l.at r.seconds r.microseconds r.start r.len r.next (sym w.1 ∙ c.read_record-a.ensures) in
    let printed = rw w.0 at c.answer-to.ensures in (
      c.word-to.auto.buf ∙ c.answer-to.auto.buf ∙ l.invariant.0,
      λ r e h. l.invariant.1 r e (rw f.0 (prints_then (prints_then printed c.word-to.ensures) h)),
    )

pub returns-in_default : goal.returns-in_default
returns-in_default c =
    let a = c.args in
    let l = c.loop-r in
    l.invariant.1 _ _ (rw (run_last a.order a.src.now l.at c.read_record-a.result c.read_record-a.ensures (sym c.unwrap_or.ensures ∙ c.in_default.is)) c.answer-to.ensures)
