-- The line of a frame: the packet's name, then inner names and fields in the Rust's order.
use Rattle.std.specs.Prelude.{ℕ, List, [], ◌∷◌, ◌++◌, take, drop}
use Rattle.text.specs.Bytes.{bytes}
use Rattle.at.specs.Refusal.{number_of, OrRefused, good, refused}
use Rattle.edm.specs.Packet.{Packet, connect_event, disconnect_event, data_packet, data_command, at_request, at_response, at_packet, resend_packet, start_packet}
use Rattle.render.specs.Words.{values_line}
use Rattle.render.specs.Refusal.{frame_refused_line}
use Rattle.render.specs.Event.{cases26, event_line}
use Rattle.render.specs.Response.{response_line}

-- a connect event names its kind after the channel. No field has a list of names: numbers are decimal, places hex
abbrev pub packet_line : List ℕ → Packet → List ℕ
packet_line src (connect_event vs) = bytes "ConnectEvent" ++ values_line [] src (take 1 vs) ++ (bytes " ConnectEventIPv4" ++ values_line [] src (drop 1 vs))
packet_line src (disconnect_event vs) = bytes "DisconnectEvent" ++ values_line [] src vs
packet_line src (data_packet vs) = bytes "DataEvent" ++ values_line [] src vs
packet_line src (data_command vs) = bytes "DataCommand" ++ values_line [] src vs
packet_line src (at_request v) = bytes "ATRequest" ++ values_line [] src (v ∷ [])
packet_line src (at_response r) = bytes "ATResponse " ++ response_line src r
packet_line src (at_packet e) = bytes "ATEvent " ++ event_line cases26 src e
packet_line src resend_packet = bytes "ResendConnectEvents"
packet_line src start_packet = bytes "StartEvent"

abbrev pub frame_line : List ℕ → OrRefused Packet → List ℕ
frame_line src (good p) = packet_line src p
frame_line src (refused n) = frame_refused_line (number_of n)
