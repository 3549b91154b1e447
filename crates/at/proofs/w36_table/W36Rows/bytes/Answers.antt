use Rattle.at.proofs.TableTests.{bytes-w36}
use Rattle.at.proofs.w36_table.W36Rows.bytes.Goals as goal

pub returns : goal.returns
returns c = bytes-w36
