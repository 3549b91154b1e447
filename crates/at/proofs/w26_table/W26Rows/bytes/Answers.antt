use Rattle.at.proofs.TableTests.{bytes-w26}
use Rattle.at.proofs.w26_table.W26Rows.bytes.Goals as goal

pub returns : goal.returns
returns c = bytes-w26
