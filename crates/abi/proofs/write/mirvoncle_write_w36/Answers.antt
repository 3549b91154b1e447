use Rattle.at.specs.W36.{rows36}
use Rattle.at.proofs.TableTests.{rows-w36}
use Rattle.abi.proofs.CodeLaws.{sends_given, sends_none}
use Rattle.abi.proofs.GivenLaws.{few-w36}
use borrow.Author.Rules.{rules}
use Rattle.abi.proofs.write.mirvoncle_write_w36.Goals as goal

-- `mirvoncle_write_w36` meets its contract by those of `given::event_in` and `writer::write_parts`. Assumes nothing.
pub event_in-requires : goal.event_in-requires
event_in-requires c = (rows36, few-w36 _ c.rows.ensures)

pub returns-in-Ok : goal.returns-in-Ok
returns-in-Ok c =
    let it = c.event_in.ensures rows36 (few-w36 _ c.rows.ensures) in
    rw rows-w36 (sends_given rows36 _ _ _ _ c.in-Ok.p (rw c.in-Ok.is at it) c.write_parts.ensures c.line_written.ensures)

pub returns-in-Err : goal.returns-in-Err
returns-in-Err c =
    let it = c.event_in.ensures rows36 (few-w36 _ c.rows.ensures) in
    rw rows-w36 (sends_none rows36 _ _ _ _ c.in-Err.e (rw c.in-Err.is at it) (search rules))
