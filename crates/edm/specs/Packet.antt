-- The packets: what each identifier carries, and what each packet of the code says in these terms.
use Rattle.std.specs.Prelude.{ℕ, List, [], ◌∷◌, cond, eqb, Result, Ok, Err}
use Rattle.at.specs.Refusal.{OrRefused, good, refused}
use Rattle.at.specs.Event.{Value, at, num, Event}
use Rattle.at.specs.Response.{Response, response_of}
use Rattle.at.specs.W26.{event_of}
use Rattle.edm.specs.Refusal.{refusal_of}
use Rattle.edm.specs.declared.EdmPacket.{EdmPacket}
use Rattle.edm.specs.declared.EdmPacket.TheVariants as is
use Rattle.edm.specs.declared.EdmPacketError.{EdmPacketError}

-- what the payload of an identifier carries
pub data Carries : Type 0 where
  connect disconnect data_event request response at_event resend start unknown : Carries

pub data Identifier : Type 0 where
  ◌carries◌ : ℕ → Carries → Identifier

infix 30 ◌carries◌
-- 0036, the data command, reads as a data event
unfoldable pub identifiers : List Identifier
identifiers =
    (0x0011 carries connect)
    ∷ (0x0021 carries disconnect)
    ∷ (0x0031 carries data_event)
    ∷ (0x0036 carries data_event)
    ∷ (0x0044 carries request)
    ∷ (0x0045 carries response)
    ∷ (0x0041 carries at_event)
    ∷ (0x0056 carries resend)
    ∷ (0x0071 carries start)
    ∷ []

unfoldable pub carried : List Identifier → ℕ → Carries
carried [] id = unknown
carried ((i carries c) ∷ rest) id = cond (eqb id i) c (carried rest id)

-- a packet: its kind and its contents, in the order of the layout. A text, data or an address is a place
pub data Packet : Type 0 where
  connect_event disconnect_event data_packet data_command : List Value → Packet
  at_request : Value → Packet
  at_response : Response → Packet
  at_packet : Event → Packet
  resend_packet start_packet : Packet

abbrev pub packet_of : EdmPacket → Packet
packet_of (is.ConnectEvent c e) = connect_event (num c.0 ∷ num e.protocol ∷ at e.remote_addr ∷ num e.remote_port ∷ at e.local_addr ∷ num e.local_port ∷ [])
packet_of (is.DisconnectEvent c) = disconnect_event (num c.0 ∷ [])
packet_of (is.DataEvent c d) = data_packet (num c.0 ∷ at d ∷ [])
packet_of (is.DataCommand c d) = data_command (num c.0 ∷ at d ∷ [])
packet_of (is.ATRequest t) = at_request (at t)
packet_of (is.ATResponse r) = at_response (response_of r)
packet_of (is.ATEvent e) = at_packet (event_of e)
packet_of is.ResendConnectEvents = resend_packet
packet_of is.StartEvent = start_packet

abbrev pub shown : Result EdmPacket EdmPacketError → OrRefused Packet
shown (Ok p) = good (packet_of p)
shown (Err e) = refused (refusal_of e)
