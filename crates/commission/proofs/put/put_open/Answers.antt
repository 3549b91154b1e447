use native.Mathlib.Omega.{arith}
use borrow.Author.Tests.{eq-eqb, ne_eqb}
use Rattle.render.proofs.PrintLaws.{prints-none, prints_then}
use Rattle.commission.specs.Reply.{open_row}
use Rattle.commission.proofs.ReplyRoom.{open_room}
use Rattle.commission.proofs.put.put_open.Goals as goal

-- `put::put_open` meets its contract. Assumes nothing.
pub returns-then-row-eq0 : goal.returns-then-row-eq0
unfolding open_row
returns-then-row-eq0 c =
    let a = c.args in
    let test = eq-eqb a.row.kind 0 c.if-row-eq0.true in
    (rw test (prints-none a.output.now a.at), rw test (omega arith))

pub returns : goal.returns
unfolding open_row
returns c =
    let a = c.args in
    (rw (ne_eqb a.row.kind 0 c.if-row-eq0.false) (prints_then c.put_row-next.ensures.0 c.word.ensures), open_room a.channel.0 a.row c.put_row-next.ensures.1)
