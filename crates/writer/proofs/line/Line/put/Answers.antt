use Rattle.std.proofs.Common.{◌≡◌, ◌+◌, ◌∙◌, length, ap, arith, Some}
use Rattle.writer.specs.Line.{after_name}
use Rattle.writer.specs.Steps.{texts}
use Rattle.writer.proofs.FieldsLaws.{not_refused, put_to}
use Rattle.writer.proofs.LineLaws.{bytes_length, line_put}
use Rattle.writer.proofs.line.Line.put.Goals as goal

-- `line::Line::put` meets its contract: head, fields and end, each after the one before it. Assumes nothing.
pub returns-in_err-to : goal.returns-in_err-to
returns-in_err-to c =
    absurd (not_refused _ _ _ _ c.put.ensures.0 (omega (arith, bytes_length c.args.self, c.requires.1)) c.in_err-to.was)

pub returns-in_err-to-2 : goal.returns-in_err-to-2
returns-in_err-to-2 c =
    let to : c.in_ok-to.to ≡ 2 = put_to _ _ _ _ c.put.ensures.0 _ c.in_ok-to.was in
    absurd (not_refused _ _ _ _ c.put-2.ensures.0 (omega (arith, c.put.auto.buf, bytes_length c.args.self, c.requires.1)) c.in_err-to-2.was)

pub put_fields-requires : goal.put_fields-requires
put_fields-requires c =
    let to : c.in_ok-to.to ≡ 2 = put_to _ _ _ _ c.put.ensures.0 _ c.in_ok-to.was in
    let past = put_to _ _ _ _ c.put-2.ensures.0 _ c.in_ok-to-2.was in
    omega (arith, c.put.auto.buf, c.put-2.auto.buf, bytes_length c.args.self, c.requires.1)

pub put_ending-requires : goal.put_ending-requires
put_ending-requires c =
    let to : c.in_ok-to.to ≡ 2 = put_to _ _ _ _ c.put.ensures.0 _ c.in_ok-to.was in
    let past = put_to _ _ _ _ c.put-2.ensures.0 _ c.in_ok-to-2.was in
    let put = c.in_ok-to-3.ensures in
    let end : c.in_ok-to-3.to ≡ c.in_ok-to-2.to + length (after_name (texts c.args.self.src.now c.args.self.fields.now)) = cc put.0 in
    (c.requires.0, omega (arith, c.put.auto.buf, c.put-2.auto.buf, c.put_fields.auto.buf, bytes_length c.args.self, c.requires.1))

pub returns : goal.returns
returns c =
    let l = c.args.self in
    let to : c.in_ok-to.to ≡ 2 = put_to _ _ _ _ c.put.ensures.0 _ c.in_ok-to.was in
    let past : c.in_ok-to-2.to ≡ c.in_ok-to.to + length l.name.now = put_to _ _ _ _ c.put-2.ensures.0 _ c.in_ok-to-2.was in
    let put = c.in_ok-to-3.ensures in
    let end : c.in_ok-to-3.to ≡ c.in_ok-to-2.to + length (after_name (texts l.src.now l.fields.now)) = cc put.0 in (
      c.put_ending.ensures.0 ∙ ap Some (omega (arith, bytes_length l)),
      c.put_ending.ensures.1 ∙ rw (end, put.1, c.put-2.ensures.1, c.put.ensures.1, past, to) (line_put l c.args.buf.now c.requires.1),
    )
