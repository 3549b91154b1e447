use Rattle.text.proofs.FindLaws.{from_at, from_end, from_first, from-none}
use Rattle.text.specs.Find.{crlf}
use mathlib.Core.List.{[], ◌∷◌}
use native.Mathlib.Omega.{arith}
use mathlib.Core.Path.{refl, sym, ◌∙◌}
use Rattle.text.proofs.find.far_crlf.Goals as goal

pub loop-i-init : goal.loop-i-init
loop-i-init c = (c.requires, refl)

pub returns-in_default : goal.returns-in_default
returns-in_default c = sym (c.loop-i.invariant.1 ∙ from-none 13 (10 ∷ []) c.args.s.now c.loop-i.i (omega arith) (sym c.far_byte.ensures ∙ c.in_default.is))

pub block_end-stop-requires : goal.block_end-stop-requires
block_end-stop-requires c = (from_at (13 ∷ []) c.args.s.now c.loop-i.i c.in-Some.k (sym c.far_byte.ensures ∙ c.in-Some.is)).1

pub crlf_before-requires : goal.crlf_before-requires
crlf_before-requires c = (omega (arith, c.block_end-stop.ensures.0), c.block_end-stop.ensures.1)

pub returns-in-Some-crlf_before : goal.returns-in-Some-crlf_before
returns-in-Some-crlf_before c = sym (c.loop-i.invariant.1 ∙ from_first 13 (10 ∷ []) c.args.s.now c.loop-i.i c.in-Some.k (sym c.far_byte.ensures ∙ c.in-Some.is) ∙ c.crlf_before.ensures ∙ rw c.in-Some-crlf_before.is)

pub loop-i-smaller : goal.loop-i-smaller
loop-i-smaller c = omega (arith, (from_at (13 ∷ []) c.args.s.now c.loop-i.i c.in-Some.k (sym c.far_byte.ensures ∙ c.in-Some.is)).0, c.block_end-stop.ensures.0, c.block_end-stop.ensures.1)

pub loop-i-preserved : goal.loop-i-preserved
loop-i-preserved c = (omega (arith, c.block_end-stop.ensures.1), c.loop-i.invariant.1 ∙ from_first 13 (10 ∷ []) c.args.s.now c.loop-i.i c.in-Some.k (sym c.far_byte.ensures ∙ c.in-Some.is) ∙ c.crlf_before.ensures ∙ rw c.in_default-crlf_before.is)

pub returns : goal.returns
returns c = sym (c.loop-i.invariant.1 ∙ from_end crlf c.args.s.now c.loop-i.i c.loop-i-test.false)
