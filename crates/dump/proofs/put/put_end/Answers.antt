use Rattle.std.proofs.Common.{arith}
use Rattle.render.proofs.PrintLaws.{prints_then, prints-whole}
use Rattle.dump.proofs.PutLaws.{end-room}
use Rattle.dump.proofs.put.put_end.Goals as goal

-- `put::put_end` meets its contract. Assumes nothing.
pub returns : goal.returns
returns g c =
    let room = c.with_room-out.ensures in
    let near = room.1 in
    let few = end-room c.args.form c.args.end c.args.skipped c.args.t (omega arith) (omega arith) (omega arith) (omega arith) (omega arith) in
    let whole = prints-whole (prints_then c.put_skipped-next.ensures c.put_total.ensures) (omega (arith, c.requires, near, few)) in
    record { counts = rw (← room.0) whole.0; leaves = rw (← room.0) whole.1 }
