use Prim.Native.Nat.{ℕ, suc, ◌+◌, ◌≤◌, ◌<◌}
use mathlib.Core.Path.{◌≡◌, refl, sym, ap, ◌∙◌}
use native.Mathlib.Omega.{arith}
use native.Mathlib.Numerals.{add-one}
use lib.ListN.{length, get_or, length-set}
use Rattle.std.specs.Prelude.{Some}
use Rattle.text.specs.Bytes.{part}
use Rattle.text.specs.Field.{next_field}
use Rattle.at.specs.Refusal.{missing, refused}
use Rattle.at.specs.Event.{read_field}
use Rattle.at.specs.Steps.{kind_of, fault_of, one_of, values_of, without_rest}
use Rattle.at.proofs.TakeLaws.{ahead_refused, take-missing, take-refused, one_more, all_taken}
use Rattle.at.proofs.field.take_fields.Goals as goal
use Rattle.at.proofs.field.take_fields.Goals.{After-field_of, In-Some, In-loop-i}

pub loop-i-init : goal.loop-i-init
unfolding values_of
loop-i-init c = (omega (arith, c.well_formed), refl)

more : (c : In-loop-i) → c.loop-i.i < length c.args.kinds.now
more c = c.loop-i-test.true

step : (c : In-Some) → next_field c.args.s.now (record { at = c.loop-i.at }) ≡ Some c.in-Some.next
step c = sym c.field_at.ensures ∙ c.in-Some.is

pub returns-in_default : goal.returns-in_default
returns-in_default c =
    rw c.counted-field.ensures
    (sym (ap without_rest {y = refused (missing (c.loop-i.i + 1))} (c.loop-i.invariant.1 ∙ rw (take-missing c.args.kinds.now _ _ _ (more (goal.at.returns-in_default c).In-loop-i) (sym c.field_at.ensures ∙ c.in_default.is), ahead_refused, add-one))))

-- the field that was found is read by its kind
there : (c : After-field_of)
    → let k = kind_of (get_or c.args.kinds.now c.loop-i.i 0) in
    (i : ℕ) → one_of i k c.field_of.result ≡ read_field i k c.in-Some.next.start (part c.args.s.now c.in-Some.next.start c.in-Some.next.len)
there c = λ i. rw c.part.ensures at (c.field_of.ensures i)

pub returns-in-Err : goal.returns-in-Err
returns-in-Err c =
    rw (c.of_field.ensures, c.counted.ensures)
    (sym (ap without_rest {y = refused (fault_of (c.loop-i.i + 1) c.in-Err.fault)} (c.loop-i.invariant.1 ∙ rw (take-refused c.args.kinds.now _ _ _ (more (goal.at.returns-in-Err c).In-loop-i) _ (step (goal.at.returns-in-Err c).In-Some) _ (sym (rw c.in-Err.is at (there (goal.at.returns-in-Err c).After-field_of (suc c.loop-i.i)))), ahead_refused, add-one))))

pub loop-i-preserved : goal.loop-i-preserved
loop-i-preserved c =
    let inv = c.loop-i.invariant in
    let few : c.loop-i.i < length c.loop-i.fields = omega (arith, inv.0, c.loop-i-test.true, c.requires) in (
      simp length-set inv.0,
      inv.1 ∙ one_more c.args.kinds.now _ _ _ (more (goal.at.loop-i-preserved c).In-loop-i) _ (step (goal.at.loop-i-preserved c).In-Some) _ c.in-Ok.field few (sym (rw c.in-Ok.is at (there (goal.at.loop-i-preserved c).After-field_of (suc c.loop-i.i)))),
    )

pub returns : goal.returns
returns c =
    let end : length c.args.kinds.now ≤ c.loop-i.i = omega (arith, c.loop-i-test.false) in
    sym (rw c.loop-i.invariant.1 (all_taken c.args.kinds.now _ _ _ end))
