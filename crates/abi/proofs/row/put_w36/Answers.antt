use Rattle.at.specs.W36.{rows36}
use Rattle.at.proofs.TableTests.{firsts_w36}
use Rattle.abi.proofs.RowLaws.{event_numbers_lem}
use Rattle.abi.proofs.row.put_w36.Goals as goal

-- `row::put_w36` meets its contract. Assumes nothing.
pub returns : goal.returns
returns c = rw (event_numbers_lem rows36 firsts_w36 _ _ c.from.ensures) c.put_event.ensures
