use mathlib.Core.Path.{sym, ◌∙◌}
use native.Mathlib.Omega.{arith}
use Rattle.lines.proofs.NumberLaws.{capped_start, none_empty, capped-end, capped_other, capped-more}
use Rattle.lines.proofs.number.decimal.Goals as goal

pub returns-then-is_empty : goal.returns-then-is_empty
returns-then-is_empty c = sym (none_empty c.args.s.now c.if-is_empty.ensures)

pub loop-b-init : goal.loop-b-init
loop-b-init c = (omega arith, capped_start c.args.s.now c.if-is_empty.ensures)

pub returns-then-not-is_ascii_digit : goal.returns-then-not-is_ascii_digit
returns-then-not-is_ascii_digit c = let l = c.loop-b in
    sym (l.invariant.1 ∙ capped_other l.n c.args.s.now l.b-index c.loop-b-test.true (sym c.if-not-is_ascii_digit.ensures.value))

pub loop-b-preserved : goal.loop-b-preserved
loop-b-preserved c = let l = c.loop-b in
    (omega (arith, c.longer-n.ensures), l.invariant.1 ∙ capped-more l.n c.args.s.now l.b-index c.loop-b-test.true (sym c.if-not-is_ascii_digit.ensures.value) c.longer-n.result c.longer-n.ensures)

pub returns : goal.returns
returns c = let l = c.loop-b in
    sym (l.invariant.1 ∙ capped-end l.n c.args.s.now l.b-index (omega (arith, c.loop-b-test.false)) l.invariant.0)
