-- Places inside a frame of n bytes: what a caller needs before it slices.
use Rattle.std.specs.Prelude.{ℕ}
use Rattle.at.specs.Inside.{Inside, EachInside, EventInside, ResponseInside}
use Rattle.edm.specs.Packet.{Packet, connect_event, disconnect_event, data_packet, data_command, at_request, at_response, at_packet, resend_packet, start_packet}

-- every text, data and address of a packet
abbrev pub PacketInside : ℕ → Packet → Type 0
PacketInside n (connect_event vs) = EachInside n vs
PacketInside n (disconnect_event vs) = EachInside n vs
PacketInside n (data_packet vs) = EachInside n vs
PacketInside n (data_command vs) = EachInside n vs
PacketInside n (at_request v) = Inside n v
PacketInside n (at_response r) = ResponseInside n r
PacketInside n (at_packet e) = EventInside n e
PacketInside n resend_packet = Unit {0}
PacketInside n start_packet = Unit {0}
