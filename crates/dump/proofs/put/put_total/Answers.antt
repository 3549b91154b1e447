use Rattle.render.proofs.PrintLaws.{prints-none}
use Rattle.dump.specs.Put.{total_bytes}
use Rattle.dump.proofs.put.put_total.Goals as goal

-- `put::put_total` meets its contract. Assumes nothing.
pub returns-in-Lines : goal.returns-in-Lines
unfolding total_bytes
returns-in-Lines c = rw c.in-Lines.is c.total_line.ensures

pub returns-in-Capture : goal.returns-in-Capture
unfolding total_bytes
returns-in-Capture c = rw c.in-Capture.is (prints-none _ _)
