use Prim.Native.Nat.{suc, ◌+◌, ◌-◌}
use mathlib.Core.Path.{◌≡◌, sym, ◌∙◌}
use native.Mathlib.Omega.{arith}
use Rattle.checks.proofs.StartLaws.{none_starts, passed-field, this_field}
use Rattle.checks.proofs.field.nth_start.Goals as goal

pub returns-in_default : goal.returns-in_default
returns-in_default c = sym (c.loop.invariant ∙ none_starts _ _ (c.args.field - c.loop.counter) (sym c.field_at.ensures ∙ c.in_default.is))

pub loop-preserved : goal.loop-preserved
loop-preserved c = let f = c.args.field in
    let i = c.loop.counter in
    let m : f - i ≡ suc (f - (i + 1)) = omega (arith, c.loop-test.true) in
    c.loop.invariant ∙ rw m (passed-field _ _ (f - (i + 1)) (sym c.field_at.ensures ∙ c.in-Some.is))

pub returns-in-Some-field_at : goal.returns-in-Some-field_at
returns-in-Some-field_at c = let m : c.args.field - c.loop.counter ≡ 0 = omega (arith, c.loop-test.false) in
    sym (c.loop.invariant ∙ rw m (this_field _ _ (sym c.field_at-2.ensures ∙ c.in-Some-field_at.is)))

pub returns-in-None : goal.returns-in-None
returns-in-None c = sym (c.loop.invariant ∙ none_starts _ _ (c.args.field - c.loop.counter) (sym c.field_at-2.ensures ∙ c.in-None.is))
