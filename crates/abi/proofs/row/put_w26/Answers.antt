use Rattle.at.specs.W26.{table}
use Rattle.at.proofs.TableTests.{firsts_w26}
use Rattle.abi.proofs.RowLaws.{event_numbers_lem}
use Rattle.abi.proofs.row.put_w26.Goals as goal

-- `row::put_w26` meets its contract. Assumes nothing.
pub returns : goal.returns
returns c = rw (event_numbers_lem table firsts_w26 _ _ c.from.ensures) c.put_event.ensures
