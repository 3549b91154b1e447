use native.Mathlib.Omega.{arith}
use borrow.Author.Tests.{eq-eqb, ne_eqb}
use Rattle.render.proofs.PrintLaws.{prints_then}
use Rattle.commission.specs.Reply.{row_line}
use Rattle.commission.proofs.ReplyRoom.{row_room}
use Rattle.commission.proofs.put.put_row.Goals as goal

-- `put::put_row` meets its contract. Assumes nothing.
pub returns-then-row-eq0 : goal.returns-then-row-eq0
unfolding row_line
returns-then-row-eq0 c =
    let a = c.args in
    let test = eq-eqb a.row.kind 0 c.if-row-eq0.true in
    (rw test (prints_then (prints_then c.number-a.ensures c.word-b.ensures) c.word.ensures), row_room a.channel.0 a.row (omega arith) (rw test (omega arith)))

pub returns : goal.returns
unfolding row_line
returns c =
    let a = c.args in
    let test = ne_eqb a.row.kind 0 c.if-row-eq0.false in
    (rw test (prints_then (prints_then c.number-a.ensures c.word-b.ensures) c.put_remote.ensures.0), row_room a.channel.0 a.row (omega arith) (rw test c.put_remote.ensures.1))
