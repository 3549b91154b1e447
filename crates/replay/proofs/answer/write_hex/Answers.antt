use Rattle.std.proofs.Common.{length, sym, ◌∙◌, arith}
use Rattle.lines.specs.Hex.{bytes_in}
use Rattle.lines.proofs.DecodedLaws.{bytes-spelt, decoded_bytes, decoded_none}
use Rattle.replay.proofs.answer.write_hex.Goals as goal

-- `write_hex` meets its contract: the buffer holds what the longest line spells.
pub returns-in-Ok : goal.returns-in-Ok
returns-in-Ok c =
    let a = c.args in
    let e = decoded_bytes a.bytes.now c.decode.new.bytes (bytes_in a.s.now) c.in-Ok.k (sym c.in-Ok.is ∙ c.decode.ensures.0) c.decode.ensures.1 in
    rw e (rw c.part.ensures at c.write_within.ensures)

pub returns-in-Err : goal.returns-in-Err
returns-in-Err c =
    let a = c.args in
    let e = decoded_none (length a.bytes.now) (bytes_in a.s.now) c.in-Err.field-0 (sym c.in-Err.is ∙ c.decode.ensures.0) (omega (arith, (bytes-spelt a.s.now).0, c.requires)) in
    rw e c.what.ensures
