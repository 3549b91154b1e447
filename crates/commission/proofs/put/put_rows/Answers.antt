use mathlib.Core.Path.{◌≡◌, refl, ◌∙◌}
use native.Mathlib.Omega.{arith}
use Rattle.render.proofs.PrintLaws.{prints_then}
use Rattle.channels.specs.View.{view}
use Rattle.commission.proofs.ReplyLaws.{no_rows, one-row-more}
use Rattle.commission.proofs.put.put_rows.Goals as goal

pub loop-i-init : goal.loop-i-init
loop-i-init c =
    let a = c.args in
    (refl, no_rows (view a.table.now) a.output.now a.at)

pub loop-i-preserved : goal.loop-i-preserved
loop-i-preserved c =
    let table = c.args.table.now in
    let l = c.loop-i in
    let row = c.row.ensures in
    let put = rw row at c.put_open-to.ensures in
    (c.put_open-to.auto.output ∙ l.invariant.0, one-row-more (view table) l.i l.invariant.1 put.0 put.1)

pub returns : goal.returns
returns c =
    let l = c.loop-i in
    let all : l.i ≡ 256 = omega (arith, c.loop-i-test.false, l.auto.i-end) in
    let rows = rw all at l.invariant.1 in
    (prints_then rows.prints c.word.ensures, rows.few)
