use mathlib.Core.Path.{◌∙◌}
use mathlib.Core.List.{List, [], ◌∷◌}
use Prim.Native.Nat.{ℕ}
use native.Mathlib.Omega.{arith}
use Rattle.at.specs.Response.{response_of}
use Rattle.at.specs.W26.{table, event_of}
use Rattle.abi.specs.Row.{values_numbers, event_numbers, response_numbers}
use Rattle.abi.proofs.RowLaws.{placed-over, over_then, response-width, same-packet}
use Rattle.abi.proofs.packet.put_packet.Goals as goal

-- `packet::put_packet` meets its contract. Assumes nothing.
pub returns-in-ConnectEvent : goal.returns-in-ConnectEvent
unfolding values_numbers
returns-in-ConnectEvent c = same-packet _ _ c.args.row.now _ c.in-ConnectEvent.is (rw (c.from.ensures, c.from-in-ConnectEvent.ensures, c.from-in-ConnectEvent-2.ensures, c.from-in-ConnectEvent-3.ensures) at c.put.ensures ∙ placed-over c.args.row.now _)

pub returns-in-DisconnectEvent : goal.returns-in-DisconnectEvent
unfolding values_numbers
returns-in-DisconnectEvent c =
    same-packet _ _ c.args.row.now _ c.in-DisconnectEvent.is (rw c.from-in-DisconnectEvent.ensures at c.put-in-DisconnectEvent.ensures ∙ placed-over c.args.row.now _)

pub returns-in-DataEvent : goal.returns-in-DataEvent
returns-in-DataEvent c =
    same-packet _ _ c.args.row.now _ c.in-DataEvent.is c.put_data.ensures

pub returns-in-DataCommand : goal.returns-in-DataCommand
returns-in-DataCommand c =
    same-packet _ _ c.args.row.now _ c.in-DataCommand.is c.put_data-in-DataCommand.ensures

pub returns-in-ATRequest : goal.returns-in-ATRequest
returns-in-ATRequest c = same-packet _ _ c.args.row.now _ c.in-ATRequest.is (c.put-in-ATRequest.ensures ∙ placed-over c.args.row.now _)

pub returns-in-ATResponse : goal.returns-in-ATResponse
returns-in-ATResponse c =
    let d = c.args.row.now in
    let head : List ℕ = 0 ∷ 0x45 ∷ [] in
    let r = response_of c.in-ATResponse.a in
    same-packet _ _ d _ c.in-ATResponse.is
    (c.put_response.ensures ∙ rw (c.put-in-ATResponse.ensures, placed-over d head) (over_then d head (response_numbers r) (omega (arith, c.requires, response-width r))))

pub returns-in-ATEvent : goal.returns-in-ATEvent
returns-in-ATEvent c =
    let d = c.args.row.now in
    let head : List ℕ = 0 ∷ 0x41 ∷ [] in
    let put = c.put_w26.ensures in
    same-packet _ _ d _ c.in-ATEvent.is
    (put.leaves ∙ rw (c.put-in-ATEvent.ensures, placed-over d head) (over_then d head (event_numbers table (event_of c.in-ATEvent.e)) (omega (arith, c.requires, put.ends, put.most))))

pub returns-in-ResendConnectEvents : goal.returns-in-ResendConnectEvents
returns-in-ResendConnectEvents c =
    same-packet _ _ c.args.row.now _ c.in-ResendConnectEvents.is (c.put-in-ResendConnectEvents.ensures ∙ placed-over c.args.row.now _)

pub returns-in-StartEvent : goal.returns-in-StartEvent
returns-in-StartEvent c =
    same-packet _ _ c.args.row.now _ c.in-StartEvent.is (c.put-in-StartEvent.ensures ∙ placed-over c.args.row.now _)
