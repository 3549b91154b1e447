use Rattle.at.proofs.TableTests.{bytes-w26}
use Rattle.at.proofs.w26.rows.Goals as goal

pub returns : goal.returns
returns c = bytes-w26.spells
