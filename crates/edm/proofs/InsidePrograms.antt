-- Every text, data and address place in the answer of `frame::read` lies inside the lent frame: a caller may slice there. The theorem is over the
-- function's own promise: `read.Reads.Post` is what `frame::read` ensures. Assumes nothing.
use Prim.Native.Nat.{ℕ, ◌+◌, ◌≤◌}
use mathlib.Core.List.{List}
use native.Mathlib.Omega.{arith}
use lib.Dec.{eqb, ltb}
use lib.ListN.{length}
use borrow.Author.Tests.{eqb-true, ltb-false}
use contract.Lifetimes.{Lfts}
use denote.Ref.{Bor}
use denote.Triple.Clauses.{AtExit}
use borrow.Fn.Kinds.{ended_of}
use Rattle.text.specs.Utf8.{utf8}
use Rattle.text.proofs.Bools.{by_test}
use Rattle.at.specs.Refusal.{OrRefused, good, refused}
use Rattle.at.specs.Event.{ReadEvent, event_to}
use Rattle.at.specs.Line.{read_line}
use Rattle.at.specs.Response.{Response, read_response}
use Rattle.at.specs.W26.{w26}
use Rattle.at.specs.Inside.{IfGood, AnswerInside, ResponseInside}
use Rattle.at.proofs.InsideLaws.{stays_26, line_inside, response-inside}
use Rattle.edm.specs.Packet.{Carries, connect, disconnect, data_event, request, response, at_event, resend, start, unknown, identifiers, carried, Packet, shown}
use Rattle.edm.specs.Payload.{byte, word, read_connect, read_disconnect, read_data_event, read_request, of_response, of_event, read_payload}
use Rattle.edm.specs.Frame.{delimited, length_field, payload, read_frame}
use Rattle.edm.specs.Inside.{PacketInside}
use Rattle.edm.specs.declared.EdmPacket.{EdmPacket}
use Rattle.edm.specs.declared.EdmPacketError.{EdmPacketError}
use Rattle.std.specs.Prelude.{Result}
use Rattle.edm.proofs.FrameLaws.{payload-length}
use Rattle.edm.proofs.frame.read as read

-- a payload at the place p that ends at or before n
module _ (n p : ℕ) (t : List ℕ) (h : p + length t ≤ n) where
  abbrev Held : OrRefused Packet → Type 0
  Held o = IfGood (PacketInside n) o

  connect_inside : Held (read_connect p t)
  unfolding read_connect
  connect_inside =
      by_test Held (ltb (length t) 2) (λ x. tt)
      (λ x. by_test Held (eqb (byte t 1) 2)
      (λ y. by_test Held (eqb (length t) 15)
      (λ e. let l = eqb-true (length t) 15 e in (tt, (tt, (omega arith, (tt, (omega arith, (tt, tt))))))) (λ e. tt))
      (λ y. tt))

  disconnect_inside : Held (read_disconnect p t)
  unfolding read_disconnect
  disconnect_inside = by_test Held (eqb (length t) 1) (λ e. (tt, tt)) (λ e. tt)

  data-inside : Held (read_data_event p t)
  unfolding read_data_event
  data-inside = by_test Held (ltb (length t) 1) (λ e. tt) (λ e. let l = ltb-false (length t) 1 e in (tt, (omega arith, tt)))

  request_inside : Held (read_request p t)
  unfolding read_request
  request_inside = by_test Held (utf8 t) (λ e. h) (λ e. tt)

  of_response_lem : (a : OrRefused Response) → IfGood (ResponseInside n) a → Held (of_response a)
  of_response_lem (good r) i = i
  of_response_lem (refused m) i = tt

  of_event_lem : (a : OrRefused ReadEvent) → AnswerInside n a → Held (of_event a)
  of_event_lem (good (event_to e past)) i = i.0
  of_event_lem (refused m) i = tt

  payload-inside : (k : Carries) → Held (read_payload k p t)
  payload-inside connect = connect_inside
  payload-inside disconnect = disconnect_inside
  payload-inside data_event = data-inside
  payload-inside request = request_inside
  payload-inside response = of_response_lem (read_response p t) (response-inside n p t h)
  payload-inside at_event = of_event_lem (read_line w26 p t) (line_inside n w26 stays_26 p t h)
  payload-inside resend = tt
  payload-inside start = tt
  payload-inside unknown = tt

pub frame-inside : (s : List ℕ) → IfGood (PacketInside (length s)) (read_frame s)
unfolding read_frame
frame-inside s =
    let P = IfGood (PacketInside (length s)) in
    by_test P (delimited s)
    (λ d. by_test P (ltb (length s) 6) (λ e. tt)
    (λ e. by_test P (eqb (length_field s) (length (payload s) + 2))
    (λ x. payload-inside (length s) 5 (payload s) (omega (arith, ltb-false (length s) 6 e, payload-length s)) (carried identifiers (word s 3))) (λ x. tt)))
    (λ d. tt)

-- whatever `frame::read` answers
pub frame_read_inside : (κs : Lfts 1) (s : Bor (List ℕ)) (r : Result EdmPacket EdmPacketError) (i : AtExit (ended_of 1 read.Kinds.ps read.Kinds.r) κs) → read.Reads.Post κs (s, tt) r i
    → IfGood (PacketInside (length s.now)) (shown r)
frame_read_inside κs s r i e = rw e (frame-inside s.now)
