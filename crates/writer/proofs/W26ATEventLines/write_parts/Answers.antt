use Rattle.at.specs.W26.{table}
use Rattle.at.proofs.TableTests.{roomy-w26}
use Rattle.writer.proofs.W26ATEventLines.write_parts.Goals as goal

-- Parts of a W26 event are written by its table. Assumes nothing.
pub returns : goal.returns
returns c = c.write_parts.ensures table (record { spells = c.rows.ensures; rooms = roomy-w26.0 })
