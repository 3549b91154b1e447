use Prim.Native.Nat.{◌<◌}
use mathlib.Core.Path.{◌≡◌, sym, ap, ◌∙◌}
use native.Mathlib.Omega.{arith}
use lib.ListN.{length}
use Rattle.std.proofs.lemmas.Result.{err_from_is_err_and}
use Rattle.text.specs.FieldSteps.{left}
use Rattle.at.specs.Event.{up_to}
use Rattle.at.specs.Steps.{outcome_by, read_peer}
use Rattle.at.specs.W26.{table}
use Rattle.at.proofs.TableLaws.{few_letters, outcome_read}
use Rattle.at.proofs.TableTests.{rows-w26, roomy-w26, legible-w26}
use Rattle.at.proofs.RowsLaws.{not-left_read, left_read}
use Rattle.at.proofs.w26.event_by.Goals as goal
use Rattle.at.proofs.w26.event_by.Goals.{Joined-is_left, then-is_left, else-is_left}

-- `w26::event_by` meets its contract: a type that the first row of `+UUDPC` has not is left to the second. Assumes nothing.
-- what was taken by the one row or the other
settled : (c : Joined-is_left)
    → let a = c.args in
    (c.if-is_left.by < length table)
    × (outcome_by table c.if-is_left.by c.if-is_left.fields c.if-is_left.taken ≡ read_peer a.row (left a.s.now a.w))
settled c =
    let a = c.args in
    let first = outcome_read table a.row _ (left a.s.now a.w) c.take_fields-taken.new.fields c.take_fields-taken.result c.requires legible-w26 c.letters.ensures c.take_fields-taken.ensures in
    elim c.if-is_left.branch [
      | then-is_left w ↦
          let second = outcome_read table 25 _ (left a.s.now a.w) w.take_fields-taken-then-is_left.new.fields w.take_fields-taken-then-is_left.result (omega (arith, rows-w26)) legible-w26 w.letters-then-is_left.ensures w.take_fields-taken-then-is_left.ensures in (
            rw w.by-is (omega (arith, rows-w26)),
            rw (w.by-is, w.fields-is, w.taken-is) (left_read a.row _ _ c.take_fields-taken.result first _ second (sym c.is_left.ensures ∙ w.if-is_left.true)),
          )
      | else-is_left w ↦ (
        rw w.by-is c.requires,
        rw (w.by-is, w.fields-is, w.taken-is) (not-left_read a.row _ _ c.take_fields-taken.result first (sym c.is_left.ensures ∙ w.if-is_left.false)),
      )
    ]

pub take_fields-taken-requires : goal.take_fields-taken-requires
take_fields-taken-requires c = rw c.letters.ensures (few_letters table c.args.row roomy-w26.0 c.requires)

pub take_fields-taken-requires-then-is_left : goal.take_fields-taken-requires-then-is_left
take_fields-taken-requires-then-is_left c = rw c.letters-then-is_left.ensures (few_letters table 25 roomy-w26.0 (omega (arith, rows-w26)))

pub letters-requires-then-is_left : goal.letters-requires-then-is_left
letters-requires-then-is_left c = omega (arith, rows-w26)

pub returns : goal.returns
returns c =
    let s = settled (goal.at.returns c).Joined-is_left in
    ap (up_to c.args.past) (c.event_of.ensures s.0 ∙ rw c.in_ok-taken.was at s.1)

pub returns-in_err-taken : goal.returns-in_err-taken
returns-in_err-taken c =
    let p = err_from_is_err_and c.from_residual.result c.from_residual.ensures.1 in
    rw (p.1, p.2) (ap (up_to c.args.past) (rw c.in_err-taken.was at (settled (goal.at.returns-in_err-taken c).Joined-is_left).1))
