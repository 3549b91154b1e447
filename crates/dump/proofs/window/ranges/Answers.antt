use Rattle.std.proofs.Common.{sym, refl, ◌∙◌, arith}
use Rattle.dump.proofs.WindowLaws.{decided_few}
use Rattle.dump.proofs.GoesOnLaws.{going_start, going_step, going-stop, going_end}
use Rattle.dump.proofs.window.ranges.Goals as goal

pub loop-i-init : goal.loop-i-init
loop-i-init g c = let a = c.args in (refl, omega arith, going_start a.src.now a.places a.d)

pub report-r-requires : goal.report-r-requires
report-r-requires g c =
    let l = c.loop-i in
    let same = l.invariant.0 in
    (omega (arith, c.requires.0, same), decided_few c.args.src.now c.args.list.now c.args.count c.requires.1 l.i c.range_at-range.result c.loop-i-test.true c.range_at-range.ensures c.args.places c.decided_bytes-n.result c.decided_bytes-n.ensures)

pub loop-i-preserved : goal.loop-i-preserved
loop-i-preserved g c =
    let l = c.loop-i in
    let test = c.loop-i-test.true in
    let row = c.range_at-range in
    let bytes = c.decided_bytes-n in
    let some = c.if-n-eq0.false in (
      c.report-r.auto.output ∙ l.invariant.0,
      omega (arith, test),
      going_step c.args.src.now c.args.list.now c.args.count c.requires.1 l.i test row.result row.ensures c.args.places bytes.result bytes.ensures (omega (arith, some)) c.args.d l.r c.report-r.result c.report-r.ensures.leads l.invariant.2,
    )

pub returns-after-loop-i : goal.returns-after-loop-i
returns-after-loop-i g c whole follows is_end p f b z s =
    let l = c.loop-i in
    let test = c.loop-i-test.false in
    let near = l.invariant.1 in
    let g = l.invariant.2 whole follows is_end p f b z s in
    (g.0, going_end c.args.src.now c.args.list.now c.args.count c.requires.1 c.args.places l.i l.r.used is_end p (omega arith) g.1)

pub returns-then-n-eq0 : goal.returns-then-n-eq0
returns-then-n-eq0 g c whole follows is_end p f b z s =
    let l = c.loop-i in
    let row = c.range_at-range in
    let bytes = c.decided_bytes-n in
    let g = l.invariant.2 whole follows is_end p f b z s in
    (g.0, going-stop c.args.src.now c.args.list.now c.args.count c.requires.1 l.i c.loop-i-test.true row.result row.ensures c.args.places l.r.used (sym bytes.ensures ∙ c.if-n-eq0.true) g.1)

pub shape_of-output-after-loop-i : goal.shape_of-output-after-loop-i
shape_of-output-after-loop-i g c = c.loop-i.invariant.0

pub shape_of-output-then-n-eq0 : goal.shape_of-output-then-n-eq0
shape_of-output-then-n-eq0 g c = c.loop-i.invariant.0
