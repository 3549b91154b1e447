use Rattle.at.specs.W36.{rows36}
use Rattle.at.proofs.TableTests.{roomy-w36}
use Rattle.writer.proofs.W36ATEventLines.write_parts.Goals as goal

-- Parts of a W36 event are written by its table. Assumes nothing.
pub returns : goal.returns
returns c = c.write_parts.ensures rows36 (record { spells = c.rows.ensures; rooms = roomy-w36.1 })
