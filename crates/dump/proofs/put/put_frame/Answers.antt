use Rattle.std.proofs.Common.{arith}
use Rattle.render.proofs.PrintLaws.{prints_then, prints-whole}
use Rattle.dump.proofs.PutLaws.{frame-room}
use Rattle.dump.proofs.put.put_frame.Goals as goal

-- `put::put_frame` meets its contract. Assumes nothing.
pub returns : goal.returns
returns g c =
    let room = c.with_room-out.ensures in
    let near = room.1 in
    let few = frame-room c.args.form c.args.place c.args.skipped c.args.frame.now (omega arith) (omega arith) c.requires.1 (λ i. omega (arith, c.shared_slice_known-1.given i)) in
    let whole = prints-whole (prints_then c.put_skipped-next.ensures c.put_kept.ensures) (omega (arith, c.requires.0, near, few)) in
    record { counts = rw (← room.0) whole.0; leaves = rw (← room.0) whole.1 }
