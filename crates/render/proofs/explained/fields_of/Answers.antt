use mathlib.Core.Path.{◌≡◌, sym, ap, ◌∙◌}
use mathlib.Core.List.{[]}
use native.Mathlib.Omega.{arith}
use lib.ListN.{length}
use Rattle.checks.specs.Part.{left, shown}
use Rattle.render.specs.Explained.{parts_line}
use Rattle.render.proofs.PrintLaws.{prints-none, prints_then}
use Rattle.render.proofs.explained.fields_of.Goals as goal

-- `explained::fields_of` meets its contract. Assumes nothing.
pub loop-p-smaller : goal.loop-p-smaller
loop-p-smaller c = omega (arith, ap length (ap (shown _) (sym c.in-Some.is) ∙ c.next.ensures))

pub loop-p-preserved : goal.loop-p-preserved
unfolding parts_line
loop-p-preserved c =
    let step = ap (shown c.args.src.now) (sym c.in-Some.is) ∙ c.next.ensures in
    λ r e h. c.loop-p.invariant r e (rw (sym step) (prints_then c.field-to.ensures h))

pub returns : goal.returns
unfolding parts_line
returns c =
    let l = c.loop-p in
    let done : [] ≡ left c.args.src.now l.walk = ap (shown c.args.src.now) (sym c.in_default.is) ∙ c.next.ensures in
    l.invariant _ _ (rw (sym done) (prints-none _ _))
