use mathlib.Core.Path.{◌≡◌, refl, ap}
use native.Mathlib.Omega.{arith}
use Rattle.at.specs.Refusal.{refused, no}
use Rattle.edm.specs.Command.{command_of}
use Rattle.edm.proofs.CommandLaws.{refuses, refused_short, refused_place, roomy, takes, writes}
use Rattle.edm.proofs.command.write.Goals as goal

pub returns-in_err-room_in : goal.returns-in_err-room_in
returns-in_err-room_in c = writes _ _ _ refl (refused_short _ _ _ _ _ c.room_in.ensures c.in_err-room_in.was c.from_residual.ensures.1)

pub returns-in_err-in_source-in-DataCommand : goal.returns-in_err-in_source-in-DataCommand
returns-in_err-in_source-in-DataCommand c =
    let m = roomy _ _ _ c.room_in.ensures c.in_ok-room_in.was in
    let i = c.in_err-in_source-in-DataCommand.ensures in
    writes _ _ _ (ap (command_of c.args.src.now) c.in-DataCommand.is) (refused_place _ _ _ _ m.0 (rw i.0) i.1 c.from_residual-in_err-in_source-in-DataCommand.ensures.1)

pub returns-in_err-in_source-in-ATRequest : goal.returns-in_err-in_source-in-ATRequest
returns-in_err-in_source-in-ATRequest c =
    let m = roomy _ _ _ c.room_in.ensures c.in_ok-room_in.was in
    let i = c.in_err-in_source-in-ATRequest.ensures in
    writes _ _ _ (ap (command_of c.args.src.now) c.in-ATRequest.is) (refused_place _ _ _ _ m.0 (rw i.0) i.1 c.from_residual-in_err-in_source-in-ATRequest.ensures.1)

pub returns-in_ok-in_source-in-DataCommand : goal.returns-in_ok-in_source-in-DataCommand
returns-in_ok-in_source-in-DataCommand c =
    let i = c.in_ok-in_source-in-DataCommand.ensures in
    writes _ _ _ (ap (command_of c.args.src.now) c.in-DataCommand.is) (rw (i.0, ← i.1) c.write_data.ensures)

pub returns-in_ok-in_source-in-ATRequest : goal.returns-in_ok-in_source-in-ATRequest
returns-in_ok-in_source-in-ATRequest c =
    let i = c.in_ok-in_source-in-ATRequest.ensures in
    writes _ _ _ (ap (command_of c.args.src.now) c.in-ATRequest.is) (rw (i.0, ← i.1) c.write_request.ensures)

pub returns-in-ResendConnectEvents : goal.returns-in-ResendConnectEvents
returns-in-ResendConnectEvents c = writes _ _ _ (ap (command_of c.args.src.now) c.in-ResendConnectEvents.is) c.write_resend.ensures

pub returns-in-ConnectEvent : goal.returns-in-ConnectEvent
returns-in-ConnectEvent c =
    let m = roomy _ _ _ c.room_in.ensures c.in_ok-room_in.was in
    let k : command_of c.args.src.now c.args.p ≡ refused (no 9) = grind (arith, c.in-ConnectEvent.is) in
    writes _ _ _ k (refuses _ 9 (takes _ _ m.0) refl)
