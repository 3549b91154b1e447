use Rattle.text.proofs.FindLaws.{below_yes, below_no, below_end}
use Rattle.text.specs.Find.{crlf, last_of}
use native.Mathlib.Omega.{arith}
use mathlib.Core.Path.{refl, sym, ◌∙◌}
use Rattle.text.proofs.find.last_crlf.Goals as goal

pub loop-i-init : goal.loop-i-init
unfolding last_of
loop-i-init c = refl

pub returns-then-crlf_at : goal.returns-then-crlf_at
returns-then-crlf_at c = sym (c.loop-i.invariant ∙ below_yes crlf c.args.s.now c.loop-i.i (omega arith) (sym c.crlf_at.ensures ∙ c.if-crlf_at.true))

pub loop-i-preserved : goal.loop-i-preserved
loop-i-preserved c = c.loop-i.invariant ∙ below_no crlf c.args.s.now c.loop-i.i (omega arith) (sym c.crlf_at.ensures ∙ c.if-crlf_at.false)

pub returns : goal.returns
returns c = sym (c.loop-i.invariant ∙ below_end crlf c.args.s.now c.loop-i.i (omega arith))
