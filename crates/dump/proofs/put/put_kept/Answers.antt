use Rattle.render.proofs.PrintLaws.{prints_then}
use Rattle.dump.specs.Put.{kept_bytes}
use Rattle.dump.proofs.put.put_kept.Goals as goal

-- `put::put_kept` meets its contract. Assumes nothing.
pub returns-in-Lines : goal.returns-in-Lines
unfolding kept_bytes
returns-in-Lines c = rw c.in-Lines.is (prints_then c.meaning-next.ensures c.word.ensures)

pub returns-in-Capture : goal.returns-in-Capture
unfolding kept_bytes
returns-in-Capture c = rw c.in-Capture.is c.put_record.ensures
