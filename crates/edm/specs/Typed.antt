-- What a frame hands out fits its layout: numbers and places as each packet has them, and every text UTF-8. That the answer to a frame is such is proved
-- (proofs/TypedLaws.antt).
use Rattle.std.specs.Prelude.{ℕ, List, [], ◌∷◌}
use Rattle.at.specs.Event.{Value, num, place}
use Rattle.at.specs.W26.{table}
use Rattle.at.specs.Typed.{TextAt, TextOf, ResponseTyped}
use Rattle.edm.specs.Packet.{Packet, connect_event, disconnect_event, data_packet, data_command, at_request, at_response, at_packet, resend_packet, start_packet}

-- a part of a layout: a number, or bytes, whatever they are
pub data Part : Type 0 where
  number bytes : Part

-- a value for each part of a layout, and nothing after them; bytes are a place
abbrev pub LaidOut : List Part → List Value → Type 0
LaidOut [] [] = Unit {0}
LaidOut [] (v ∷ vs) = ⊥
LaidOut (k ∷ ks) [] = ⊥
LaidOut (number ∷ ks) (num x ∷ vs) = LaidOut ks vs
LaidOut (number ∷ ks) (place p n ∷ vs) = ⊥
LaidOut (bytes ∷ ks) (num x ∷ vs) = ⊥
LaidOut (bytes ∷ ks) (place p n ∷ vs) = LaidOut ks vs

-- channel, protocol, remote address and port, local address and port
abbrev pub connect_layout : List Part
connect_layout = number ∷ number ∷ bytes ∷ number ∷ bytes ∷ number ∷ []

-- channel, data
abbrev pub data_layout : List Part
data_layout = number ∷ bytes ∷ []

-- a text: a place of s whose bytes are UTF-8
abbrev pub IsText : List ℕ → Value → Type 0
IsText s (num x) = ⊥
IsText s (place p n) = TextAt s p n

-- a packet that was read from the frame s
abbrev pub PacketTyped : List ℕ → Packet → Type 0
PacketTyped s (connect_event vs) = LaidOut connect_layout vs
PacketTyped s (disconnect_event vs) = LaidOut (number ∷ []) vs
PacketTyped s (data_packet vs) = LaidOut data_layout vs
PacketTyped s (data_command vs) = LaidOut data_layout vs
PacketTyped s (at_request v) = IsText s v
PacketTyped s (at_response r) = ResponseTyped s r
PacketTyped s (at_packet e) = TextOf table s e
PacketTyped s resend_packet = Unit {0}
PacketTyped s start_packet = Unit {0}
