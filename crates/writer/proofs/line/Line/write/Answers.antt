use Rattle.std.proofs.Common.{◌≡◌, ◌∙◌, true, length, sym}
use borrow.Author.Tests.{le-leb}
use Rattle.text.proofs.PutAppend.{after_front}
use Rattle.writer.specs.Steps.{bytes_of, can_be_written}
use Rattle.writer.proofs.LineLaws.{there}
use Rattle.writer.proofs.line.Line.write.Goals as goal

-- `line::Line::write` meets its contract: refused before a byte is changed, or written whole. Assumes nothing.
pub returns : goal.returns
returns c =
    let b = c.args.buf.now in
    let l = bytes_of c.args.self in
    let can : can_be_written c.args.self ≡ true = sym c.is_writable.ensures ∙ c.if-not-is_writable.false in
    let fits = there c.room_after.result (length l) (length b) c.room_after.ensures c.if-is_none.ensures in
    rw (can, le-leb (length l) (length b) fits)
    (record { answers = rw (c.ok_or.ensures.value, c.put.ensures.0); leaves = c.put.ensures.1 ∙ after_front b l fits })
