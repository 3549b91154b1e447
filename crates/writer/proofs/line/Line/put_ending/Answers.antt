use Rattle.std.proofs.Common.{◌≡◌, ◌≤◌, ◌+◌, ◌/◌, ◌%◌, ◌∙◌, [], ◌∷◌, ap, refl, length, arith, ℕ, Some}
use Rattle.text.proofs.PutAppend.{after_append}
use Rattle.text.proofs.PutLaws.{room}
use Rattle.text.specs.Put.{after}
use Rattle.at.specs.Parts.{value_of}
use Rattle.writer.specs.Line.{content_of, written}
use Rattle.writer.proofs.FieldsLaws.{not_refused, put_to}
use Rattle.writer.proofs.LineLaws.{two_bytes, ends_data, ends_bare, data_small}
use Rattle.writer.proofs.line.Line.put_ending.Goals as goal

-- `line::Line::put_ending` meets its contract: the marker and the data, put one after the other, are the end of a marked line. Assumes nothing.
pub overflow_cast-item_len : goal.overflow_cast-item_len
overflow_cast-item_len c =
    let s = data_small c.args.self c.in-Some.data c.in-Some.is c.requires.0 in
    omega (arith, c.item_len.ensures)

pub returns-in_err-to-in-Some : goal.returns-in_err-to-in-Some
returns-in_err-to-in-Some c =
    let e = ap length (ends_data c.args.self c.in-Some.data c.in-Some.is _ refl) in
    absurd (not_refused _ _ _ _ c.put.ensures.0 (omega (arith, c.requires.1)) c.in_err-to-in-Some.was)

pub returns-in_ok-to-in-Some : goal.returns-in_ok-to-in-Some
returns-in_ok-to-in-Some c =
    let b = c.args.buf.now in
    let at = c.args.at in
    let w = written (content_of c.args.self.src.now (value_of c.in-Some.data)) in
    let n : ℕ = length w in
    let e = ends_data c.args.self c.in-Some.data c.in-Some.is w refl in
    let l = ap length e in
    let bytes : c.to_be_bytes.result ≡ n / 256 ∷ n % 256 ∷ [] = c.to_be_bytes.ensures ∙ rw c.item_len.ensures (two_bytes n (data_small c.args.self c.in-Some.data c.in-Some.is c.requires.0)) in
    let to : c.in_ok-to-in-Some.to ≡ at + 3 = put_to _ _ _ _ c.put.ensures.0 _ c.in_ok-to-in-Some.was in
    let fits : c.in_ok-to-in-Some.to + n ≤ length c.put.new.buf = omega (arith, c.put.auto.buf, c.requires.1) in
    let marker : c.put.new.buf ≡ after b at (1 ∷ n / 256 ∷ n % 256 ∷ []) = rw bytes at c.put.ensures.1 in
    rw e (
      c.put_item.ensures.0 ∙ (room c.put.new.buf c.in_ok-to-in-Some.to w fits).0 ∙ ap Some (omega arith),
      c.put_item.ensures.1 ∙ rw (marker, to) (after_append b at (1 ∷ n / 256 ∷ n % 256 ∷ []) w (omega (arith, c.requires.1))),
    )

pub returns-in-None : goal.returns-in-None
returns-in-None c =
    let e = ends_bare c.args.self c.in-None.is in
    rw e (c.put-in-None.ensures.0 ∙ (room _ _ _ (rw e at c.requires.1)).0, c.put-in-None.ensures.1)
