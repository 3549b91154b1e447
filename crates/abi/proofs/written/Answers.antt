use Rattle.edm.specs.Refusal.{refusal_of}
use Rattle.abi.proofs.CodeLaws.{refusal_lowest, frame_known}
use Rattle.abi.proofs.written.Goals as goal

-- `written` meets its contract. Assumes nothing.
pub returns-in-Err : goal.returns-in-Err
returns-in-Err c = let e = c.in-Err.e in rw (c.in-Err.is, c.from.ensures, c.plain.ensures, c.of_frame.ensures, refusal_lowest (refusal_of e) (frame_known e))
