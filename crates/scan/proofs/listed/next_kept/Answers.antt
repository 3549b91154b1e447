use mathlib.Core.Path.{sym, ap, ◌∙◌}
use native.Mathlib.Omega.{arith}
use Rattle.scan.proofs.ListedLaws.{kept_past, kept_here, kept-later}
use Rattle.scan.proofs.listed.next_kept.Goals as goal

pub returns-then-r : goal.returns-then-r
returns-then-r c =
    let e = c.range_at-r.ensures in
    let k = kept_here c.args.list.now c.args.count c.loop-at.at c.loop-at-test.true (ap (λ r. r.kept) (sym e) ∙ c.if-r.true) in
    rw e (sym (c.loop-at.invariant ∙ k))

pub loop-at-preserved : goal.loop-at-preserved
loop-at-preserved c =
    let e = c.range_at-r.ensures in
    c.loop-at.invariant ∙ kept-later c.args.list.now c.args.count c.loop-at.at c.loop-at-test.true (ap (λ r. r.kept) (sym e) ∙ c.if-r.false)

pub returns : goal.returns
returns c = sym (c.loop-at.invariant ∙ kept_past c.args.list.now c.args.count c.loop-at.at (omega (arith, c.loop-at-test.false)))
