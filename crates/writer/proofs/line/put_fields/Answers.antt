use Rattle.std.proofs.Common.{◌≡◌, ◌+◌, ◌∙◌, length, drop, get_or, ap, sym, refl, arith, Some}
use Rattle.at.specs.Parts.{value_of}
use Rattle.at.specs.declared.parts.Value.TheVariants.{Number}
use Rattle.writer.specs.Line.{content_of, written, after_name}
use Rattle.writer.specs.Steps.{texts}
use Rattle.writer.proofs.FieldsLaws.{separated, after_separated, separated-next, length-next, separated-end, not_refused, put_to, after_nothing, after_turn}
use Rattle.writer.proofs.line.put_fields.Goals as goal

-- `line::put_fields` meets its contract: there is room for each put, and a turn puts what the next field is. Assumes nothing.
pub loop-field-init : goal.loop-field-init
loop-field-init c = let e = after_separated (texts c.args.src.now c.args.fields.now) in (refl, rw e, rw e)

pub returns-in_err-to : goal.returns-in_err-to
returns-in_err-to c =
    let n = length-next c.loop-field.separator c.args.src.now c.args.fields.now c.loop-field.field-index (Number 0) c.loop-field-test.true in
    absurd (not_refused _ _ _ _ c.put.ensures.0 (omega (arith, c.loop-field.invariant.0, c.loop-field.invariant.1)) c.in_err-to.was)

pub returns-in_err-to-2 : goal.returns-in_err-to-2
returns-in_err-to-2 c =
    let n = length-next c.loop-field.separator c.args.src.now c.args.fields.now c.loop-field.field-index (Number 0) c.loop-field-test.true in
    let to = put_to _ _ _ _ c.put.ensures.0 _ c.in_ok-to.was in
    absurd (not_refused _ _ _ _ c.put_item.ensures.0 (omega (arith, c.put.auto.buf, c.loop-field.invariant.0, c.loop-field.invariant.1)) c.in_err-to-2.was)

pub loop-field-preserved : goal.loop-field-preserved
loop-field-preserved c =
    let loop = c.loop-field in
    let s = c.args.src.now in
    let fields = c.args.fields.now in
    let x = written (content_of s (value_of (get_or fields loop.field-index (Number 0)))) in
    let rest = separated 44 (texts s (drop (loop.field-index + 1) fields)) in
    let e = separated-next loop.separator s fields loop.field-index (Number 0) c.loop-field-test.true in
    let n = length-next loop.separator s fields loop.field-index (Number 0) c.loop-field-test.true in
    let to : c.in_ok-to.to ≡ loop.to + 1 = put_to _ _ _ _ c.put.ensures.0 _ c.in_ok-to.was in
    let past : c.in_ok-to-2.to ≡ c.in_ok-to.to + length x = put_to _ _ _ _ c.put_item.ensures.0 _ c.in_ok-to-2.was in
    let turn = after_turn loop.buf loop.to loop.separator x rest (omega (arith, loop.invariant.0, loop.invariant.1)) in (
      c.put_item.auto.buf ∙ c.put.auto.buf ∙ loop.invariant.0,
      omega (arith, loop.invariant.1),
      rw (c.put_item.ensures.1, c.put.ensures.1, past, to) (turn ∙ rw e at loop.invariant.2),
    )

pub returns : goal.returns
returns c =
    let none = separated-end c.loop-field.separator c.args.src.now c.args.fields.now c.loop-field.field-index c.loop-field-test.false in
    let at : c.loop-field.to ≡ c.args.at + length (after_name (texts c.args.src.now c.args.fields.now)) = omega (arith, ap length none, c.loop-field.invariant.1) in
    (ap Some at, sym (after_nothing c.loop-field.buf c.loop-field.to (omega (arith, c.loop-field.invariant.0))) ∙ rw none at c.loop-field.invariant.2)
