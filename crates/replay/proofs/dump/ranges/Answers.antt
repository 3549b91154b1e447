use Rattle.std.proofs.Common.{refl, ◌∙◌, arith}
use Rattle.render.proofs.PrintLaws.{prints-none, prints_then}
use Rattle.replay.proofs.DumpLaws.{ranges-first, ranges_on, ranges-done, ranges-none}
use Rattle.replay.proofs.dump.ranges.Goals as goal

pub returns-then-count-eq0 : goal.returns-then-count-eq0
returns-then-count-eq0 c ps more l n =
    let z = c.if-count-eq0.true in
    rw (ranges-none ps (omega arith)) c.word.ensures

pub loop-i-init : goal.loop-i-init
loop-i-init c =
    let k = c.if-count-eq0.false in
    (refl, omega arith, λ ps more l n r e h. h)

pub loop-i-preserved : goal.loop-i-preserved
loop-i-preserved c =
    let a = c.args in
    let l = c.loop-i in
    let t = c.loop-i-test.true in
    let word = c.word-to in
    let printed = rw c.range_at-in-loop-i.ensures at c.range-to-in-loop-i.ensures in (
      c.range-to-in-loop-i.auto.buf ∙ word.auto.buf ∙ l.invariant.0,
      omega arith,
      λ ps more f n r e h. l.invariant.2 ps more f n r e (rw (ranges_on a.list.now ps more f l.i (omega arith)) (prints_then (prints_then word.ensures printed) h)),
    )

pub shape_of-output : goal.shape_of-output
shape_of-output c = c.loop-i.invariant.0 ∙ c.range-to.auto.buf

pub returns : goal.returns
returns c ps more f n =
    let a = c.args in
    let k = c.if-count-eq0.false in
    let l = c.loop-i in
    let t = c.loop-i-test.false in
    let printed = rw c.range_at.ensures at c.range-to.ensures in
    let rest = l.invariant.2 ps more f n l.to l.output (rw (ranges-done a.list.now ps more f l.i (omega arith)) (prints-none l.output l.to)) in
    rw (ranges-first a.list.now ps more f (omega arith)) (prints_then printed rest)
