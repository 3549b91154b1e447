use mathlib.Core.Path.{sym, ◌∙◌}
use Rattle.text.specs.Put.{wrote, after}
use Rattle.text.proofs.decimal.write.Goals as goal

pub returns-then-not-has_part : goal.returns-then-not-has_part
unfolding wrote after
returns-then-not-has_part c = let e = rw c.width-len.ensures at (sym c.has_part.ensures ∙ c.if-not-has_part.true) in (rw e, rw e)

pub returns : goal.returns
unfolding wrote after
returns c =
    let e = rw c.width-len.ensures at (sym c.has_part.ensures ∙ c.if-not-has_part.false) in
    (rw (c.width-len.ensures, e), rw e c.fill.ensures)
