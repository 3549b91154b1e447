use Rattle.std.proofs.Common.{ne_eqb}
use Rattle.render.proofs.PrintLaws.{prints-none, prints_then}
use Rattle.dump.specs.Put.{skipped_bytes}
use Rattle.dump.proofs.PutLaws.{skipped_nothing}
use Rattle.dump.proofs.put.put_skipped.Goals as goal

-- `put::put_skipped` meets its contract. Assumes nothing.
pub returns-then-len-eq0 : goal.returns-then-len-eq0
returns-then-len-eq0 c =
    let a = c.args in
    rw (skipped_nothing a.form a.end a.len c.if-len-eq0.true) (prints-none _ _)

pub returns-in-Lines : goal.returns-in-Lines
unfolding skipped_bytes
returns-in-Lines c =
    let a = c.args in
    let printed = rw c.saturating_sub.ensures at c.range-next.ensures in
    rw (c.in-Lines.is, ne_eqb a.len 0 c.if-len-eq0.false) (prints_then printed c.word.ensures)

pub returns-in-Capture : goal.returns-in-Capture
unfolding skipped_bytes
returns-in-Capture c = rw c.in-Capture.is (prints-none _ _)
