-- The promise of `frame::read` allows one answer only: `shown` distinguishes any two answers. Two wrong readers break it. Assumes nothing.
use mathlib.Core.Path.{◌≡◌, refl, sym, ap, ◌∙◌}
use mathlib.Core.List.{List, [], ◌∷◌}
use contract.Lifetimes.{Lfts}
use denote.Triple.Clauses.{AtExit}
use borrow.Fn.Kinds.{Dens, ended_of}
use Rattle.text.specs.Bytes.{hex}
use Rattle.text.proofs.OneOutcome.{One, distinguished}
use Rattle.at.specs.Event.{Value, num, place}
use Rattle.at.specs.Refusal.{OrRefused, good, refused}
use Rattle.at.proofs.Answers.{text_in, number_at, text_at}
use Rattle.at.proofs.ResponseAnswers.{response_in, response_back}
use Rattle.at.proofs.W26Answers.{event_in, event_back}
use Rattle.edm.specs.Packet.{identifiers, carried, Packet, connect_event, disconnect_event, data_packet, data_command, at_request, at_response, at_packet, resend_packet, start_packet, packet_of, shown}
use Rattle.edm.specs.Payload.{read_data_event}
use Rattle.edm.specs.Frame.{read_frame}
use Rattle.edm.specs.declared.Channel.{Channel}
use Rattle.edm.specs.declared.EdmPacketError.{EdmPacketError}
use Rattle.edm.specs.declared.EdmPacket.{EdmPacket}
use Rattle.edm.specs.declared.EdmPacket.TheVariants as is
use Rattle.std.specs.Prelude.{Result, Ok, Err}
use Rattle.edm.proofs.Refusals.{error_of, error_back}
use Rattle.edm.proofs.frame.read as read

abbrev channel : List Value → Channel
channel vs = record { 0 = number_at vs 0 }

-- the packet that a packet of the definitions was shown from
abbrev packet_in : Packet → EdmPacket
packet_in (connect_event vs) = is.ConnectEvent (channel vs) (record { protocol = number_at vs 1; remote_addr = text_at vs 2; remote_port = number_at vs 3; local_addr = text_at vs 4; local_port = number_at vs 5 })
packet_in (disconnect_event vs) = is.DisconnectEvent (channel vs)
packet_in (data_packet vs) = is.DataEvent (channel vs) (text_at vs 1)
packet_in (data_command vs) = is.DataCommand (channel vs) (text_at vs 1)
packet_in (at_request v) = is.ATRequest (text_in v)
packet_in (at_response r) = is.ATResponse (response_in r)
packet_in (at_packet e) = is.ATEvent (event_in e)
packet_in resend_packet = is.ResendConnectEvents
packet_in start_packet = is.StartEvent

packet_back : (p : EdmPacket) → packet_in (packet_of p) ≡ p
packet_back (is.ConnectEvent c e) = refl
packet_back (is.DisconnectEvent c) = refl
packet_back (is.DataEvent c d) = refl
packet_back (is.DataCommand c d) = refl
packet_back (is.ATRequest t) = refl
packet_back (is.ATResponse r) = ap is.ATResponse (response_back r)
packet_back (is.ATEvent e) = ap is.ATEvent (event_back e)
packet_back is.ResendConnectEvents = refl
packet_back is.StartEvent = refl

abbrev unshown : OrRefused Packet → Result EdmPacket EdmPacketError
unshown (good p) = Ok (packet_in p)
unshown (refused n) = Err (error_of n)

back : (r : Result EdmPacket EdmPacketError) → unshown (shown r) ≡ r
back (Ok p) = ap Ok (packet_back p)
back (Err e) = ap Err (error_back e)

pub shown_injective : (r q : Result EdmPacket EdmPacketError) → shown r ≡ shown q → r ≡ q
shown_injective = distinguished shown unshown back

pub one_read_lem : One 1 read.Kinds.ps read.Kinds.r read.Reads.Post (λ κs x s. x)
one_read_lem κs a x y s t p q = shown_injective x y (p ∙ sym q)

-- two frames, read by computation
start_read : read_frame (hex "AA 00 02 00 71 55") ≡ good start_packet
unfolding read_frame identifiers carried
start_read = refl

data_read : read_frame (hex "AA 00 04 00 36 03 41 55") ≡ good (data_packet (num 3 ∷ place 6 1 ∷ []))
unfolding read_frame identifiers carried read_data_event
data_read = refl

-- Answers of wrong readers, wherever the frame is lent.
module _ (κs : Lfts 1) (a : Dens κs read.Kinds.ps) (e : AtExit (ended_of 1 read.Kinds.ps read.Kinds.r) κs) where
  -- a reader that refuses everything, with whatever number
  pub refuses-not_all : (d : EdmPacketError) → a.0.now ≡ hex "AA 00 02 00 71 55" → read.Reads.Post κs a (Err d) e → ⊥
  refuses-not_all d s p =
      let q : shown (Err d) ≡ good start_packet = (rw s at p) ∙ start_read in
      cc

  -- a reader that answers StartEvent to everything
  pub starts_not_all : a.0.now ≡ hex "AA 00 04 00 36 03 41 55" → read.Reads.Post κs a (Ok is.StartEvent) e → ⊥
  starts_not_all s p =
      let q : shown (Ok is.StartEvent) ≡ good (data_packet (num 3 ∷ place 6 1 ∷ [])) = (rw s at p) ∙ data_read in
      cc
