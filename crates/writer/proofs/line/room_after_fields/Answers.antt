use Rattle.std.proofs.Common.{arith}
use Rattle.at.specs.declared.parts.Value.TheVariants.{Number}
use Rattle.writer.specs.Steps.{texts}
use Rattle.writer.proofs.FieldsLaws.{as_long_after, length-next, separated-end}
use Rattle.writer.proofs.line.room_after_fields.Goals as goal

-- `line::room_after_fields` meets its contract: each field takes one byte and its own. Assumes nothing.
pub loop-field-init : goal.loop-field-init
loop-field-init c = omega (arith, as_long_after 44 (texts c.args.src.now c.args.fields.now))

pub returns-in_err-checked_sub : goal.returns-in_err-checked_sub
returns-in_err-checked_sub c =
    let n = length-next 44 c.args.src.now c.args.fields.now c.loop-field.field-index (Number 0) c.loop-field-test.true in
    rw c.from_residual.ensures (λ h. c.in_err-checked_sub.ensures (omega (arith, c.loop-field.invariant)))

pub returns-in_err-left : goal.returns-in_err-left
returns-in_err-left c =
    let n = length-next 44 c.args.src.now c.args.fields.now c.loop-field.field-index (Number 0) c.loop-field-test.true in
    let one = c.in_ok-checked_sub.ensures in
    rw c.from_residual-in_err-left.ensures (λ h. c.in_err-left.ensures (omega (arith, c.loop-field.invariant, c.item_len.ensures)))

pub loop-field-preserved : goal.loop-field-preserved
loop-field-preserved c =
    let n = length-next 44 c.args.src.now c.args.fields.now c.loop-field.field-index (Number 0) c.loop-field-test.true in
    let one = c.in_ok-checked_sub.ensures in
    let more = c.in_ok-left.ensures in
    omega (arith, c.loop-field.invariant, c.item_len.ensures)

pub returns : goal.returns
returns c =
    let none = separated-end 44 c.args.src.now c.args.fields.now c.loop-field.field-index c.loop-field-test.false in
    let all = rw none at c.loop-field.invariant in
    (omega arith, omega arith)
