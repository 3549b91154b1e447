use Rattle.at.specs.W26.{table}
use Rattle.at.proofs.TableTests.{rows-w26}
use Rattle.abi.proofs.CodeLaws.{sends_given, sends_none}
use Rattle.abi.proofs.GivenLaws.{few-w26}
use borrow.Author.Rules.{rules}
use Rattle.abi.proofs.write.mirvoncle_write_w26.Goals as goal

-- `mirvoncle_write_w26` meets its contract by those of `given::event_in` and `writer::write_parts`. Assumes nothing.
pub event_in-requires : goal.event_in-requires
event_in-requires c = (table, few-w26 _ c.rows.ensures)

pub returns-in-Ok : goal.returns-in-Ok
returns-in-Ok c =
    let it = c.event_in.ensures table (few-w26 _ c.rows.ensures) in
    rw rows-w26 (sends_given table _ _ _ _ c.in-Ok.p (rw c.in-Ok.is at it) c.write_parts.ensures c.line_written.ensures)

pub returns-in-Err : goal.returns-in-Err
returns-in-Err c =
    let it = c.event_in.ensures table (few-w26 _ c.rows.ensures) in
    rw rows-w26 (sends_none table _ _ _ _ c.in-Err.e (rw c.in-Err.is at it) (search rules))
