use mathlib.Core.Path.{sym, ◌∙◌}
use native.Mathlib.Omega.{arith}
use lib.ListN.{length}
use Rattle.lines.specs.Hex.{bytes_in}
use Rattle.lines.proofs.DecodedLaws.{bytes-spelt, decoded_bytes, decoded_none}
use Rattle.commission.proofs.question.frame_in.Goals as goal

-- `question::frame_in` meets its contract. Assumes nothing.
pub returns-in-Ok : goal.returns-in-Ok
returns-in-Ok c =
    let a = c.args in
    rw (decoded_bytes a.frame.now c.decode.new.bytes (bytes_in a.s.now) c.in-Ok.n (sym c.in-Ok.is ∙ c.decode.ensures.0) c.decode.ensures.1)

pub returns-in-Err : goal.returns-in-Err
returns-in-Err c =
    let a = c.args in
    rw (decoded_none (length a.frame.now) (bytes_in a.s.now) c.in-Err.field-0 (sym c.in-Err.is ∙ c.decode.ensures.0) (omega (arith, (bytes-spelt a.s.now).0, c.requires)))
