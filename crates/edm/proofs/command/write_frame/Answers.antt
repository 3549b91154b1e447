use native.Mathlib.Omega.{arith}
use Rattle.edm.proofs.CommandLaws.{wrote_parts, left_parts, refused_parts, refused_short, roomy, sends}
use Rattle.edm.proofs.command.write_frame.Goals as goal

pub returns-in_err-room : goal.returns-in_err-room
returns-in_err-room c = refused_short _ _ _ _ _ c.room_in.ensures c.in_err-room.was c.from_residual.ensures.1

pub returns-then-room-n : goal.returns-then-room-n
returns-then-room-n c =
    let a = c.args in
    let m = roomy _ _ _ c.room_in.ensures c.in_ok-room.was in
    sends _ _ m.0 (refused_parts _ _ a.before.now a.body.now a.tail.now (λ h. omega arith))

pub returns : goal.returns
returns c =
    let a = c.args in
    let m = roomy _ _ _ c.room_in.ensures c.in_ok-room.was in
    let p = rw c.to_be_bytes.ensures at c.put.ensures.1 in
    sends _ _ m.0
    (record {
      answers = wrote_parts a.buf.now a.identifier a.before.now a.body.now a.tail.now (omega (arith, m.1)) (omega (arith, m.1));
      leaves =
          left_parts _ _ _ _ _ (omega (arith, m.1)) (omega (arith, m.1)) (omega (arith, c)) _ _ _ _ _
          p c.put-2.ensures.1 c.put-3.ensures.1 c.put-4.ensures.1 c.put-5.ensures.1;
    })
