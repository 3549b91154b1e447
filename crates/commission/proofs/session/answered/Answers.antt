use native.Mathlib.Omega.{arith}
use lib.ListN.{length-append}
use Rattle.text.specs.Bytes.{bytes}
use Rattle.render.proofs.PrintLaws.{prints_then, prints-whole}
use Rattle.channels.specs.View.{view}
use Rattle.commission.specs.Question.{asked_in}
use Rattle.commission.specs.Reply.{reply}
use Rattle.commission.proofs.session.answered.Goals as goal

-- `session::answered` meets its contract. Assumes nothing.
pub returns : goal.returns
returns g c =
    let room = c.with_room-out.ensures in
    let r = c.answer-place.ensures in
    let line = reply (view c.args.table.now) (asked_in c.args.gone c.args.line.now) in
    let whole = prints-whole (prints_then r.prints c.word.ensures) (omega (arith, c.requires.0, room.1, r.few, length-append line (bytes "\n"))) in
    (record { counts = rw (← room.0) whole.0; leaves = rw (← room.0) whole.1 }, r.leads)
