use mathlib.Core.Path.{refl}
use Rattle.edm.proofs.CommandLaws.{refuses, refused_short, roomy, takes}
use Rattle.edm.proofs.command.write_request.Goals as goal

pub returns-in_err-room_in : goal.returns-in_err-room_in
returns-in_err-room_in c = refused_short _ _ _ _ _ c.room_in.ensures c.in_err-room_in.was c.from_residual.ensures.1

pub returns-then-not-is_utf8 : goal.returns-then-not-is_utf8
returns-then-not-is_utf8 c =
    let m = roomy _ _ _ c.room_in.ensures c.in_ok-room_in.was in
    refuses _ 8 (rw (takes _ _ m.0, ← c.if-not-is_utf8.ensures)) refl
