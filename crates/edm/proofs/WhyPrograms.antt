-- The field that a refused frame names is the first of its W26 line that is missing or of wrong form: through the definitions, and then over the
-- reader's own promise. Assumes nothing.
use Prim.Native.Nat.{ℕ, ◌+◌}
use mathlib.Core.Path.{◌≡◌, refl}
use mathlib.Core.List.{List}
use lib.Dec.{eqb, ltb}
use lib.ListN.{length}
use contract.Lifetimes.{Lfts}
use denote.Ref.{Bor}
use denote.Triple.Clauses.{AtExit}
use borrow.Fn.Kinds.{ended_of}
use Rattle.text.specs.Utf8.{utf8}
use Rattle.text.proofs.Bools.{either}
use Rattle.at.specs.Refusal.{OrRefused, good, refused}
use Rattle.at.specs.Event.{ReadEvent, event_to}
use Rattle.at.specs.Line.{read_line}
use Rattle.at.specs.Response.{Response, read_response}
use Rattle.at.specs.W26.{w26}
use Rattle.at.specs.Why.{LineNames, FieldUpToSeven}
use Rattle.at.proofs.TableTests.{roomy-w26}
use Rattle.at.proofs.WhyLaws.{CarriesNoField, response-plain, line_names, line_seven, nothing-seven}
use Rattle.edm.specs.Packet.{Carries, connect, disconnect, data_event, request, response, at_event, resend, start, unknown, identifiers, carried, Packet, shown}
use Rattle.edm.specs.Payload.{byte, word, read_connect, read_disconnect, read_data_event, read_request, of_response, of_event, read_payload}
use Rattle.edm.specs.Frame.{delimited, length_field, payload, read_frame}
use Rattle.edm.specs.Why.{PayloadNames, FrameNames}
use Rattle.edm.specs.declared.EdmPacket.{EdmPacket}
use Rattle.edm.specs.declared.EdmPacketError.{EdmPacketError}
use Rattle.std.specs.Prelude.{Result}
use Rattle.edm.proofs.frame.read as read

-- Every payload but a W26 line

of_response_lem : (r : OrRefused Response) → CarriesNoField r → CarriesNoField (of_response r)
of_response_lem (good r) h = tt
of_response_lem (refused n) h = h

-- what holds of answers that carry no field, and of that to a line, holds of a payload
module _ (P : OrRefused Packet → Type 0) (plain : (o : OrRefused Packet) → CarriesNoField o → P o) (p : ℕ) (t : List ℕ) where
  payload-by : (c : Carries) → (c ≡ at_event → P (of_event (read_line w26 p t))) → P (read_payload c p t)
  unfolding read_connect read_disconnect read_data_event read_request
  payload-by connect line =
      plain _ (either CarriesNoField (ltb (length t) 2) (λ c. c) (either CarriesNoField (eqb (byte t 1) 2) (either CarriesNoField (eqb (length t) 15) tt (λ c. c)) (λ c. c)))
  payload-by disconnect line = plain _ (either CarriesNoField (eqb (length t) 1) tt (λ c. c))
  payload-by data_event line = plain _ (either CarriesNoField (ltb (length t) 1) (λ c. c) tt)
  payload-by request line = plain _ (either CarriesNoField (utf8 t) tt (λ c. c))
  payload-by response line = plain _ (of_response_lem (read_response p t) (response-plain p t))
  payload-by at_event line = line refl
  payload-by resend line = plain _ tt
  payload-by start line = plain _ tt
  payload-by unknown line = plain _ (λ c. c)

frame-by : (P : OrRefused Packet → Type 0) → ((o : OrRefused Packet) → CarriesNoField o → P o) → (s : List ℕ)
    → P (read_payload (carried identifiers (word s 3)) 5 (payload s)) → P (read_frame s)
unfolding read_frame
frame-by P plain s held =
    either P (delimited s)
    (either P (ltb (length s) 6) (plain _ (λ c. c)) (either P (eqb (length_field s) (length (payload s) + 2)) held (plain _ (λ c. c))))
    (plain _ (λ c. c))

-- The field that is named

module _ (contents : Carries) (p : ℕ) (t : List ℕ) where
  plain-names : (o : OrRefused Packet) → CarriesNoField o → PayloadNames contents p t o
  plain-names (good k) h = tt
  plain-names (refused n) h = λ c. absurd (h c)

  event-names : contents ≡ at_event → (a : OrRefused ReadEvent) → LineNames w26 p t a → PayloadNames contents p t (of_event a)
  event-names e (good (event_to d past)) h = tt
  event-names e (refused n) h = λ c. (e, h c)

  payload-names : PayloadNames contents p t (read_payload contents p t)
  payload-names = payload-by (PayloadNames contents p t) plain-names p t contents (λ e. event-names e (read_line w26 p t) (line_names w26 p t))

pub frame-names : (s : List ℕ) → FrameNames s (read_frame s)
frame-names s =
    let contents = carried identifiers (word s 3) in
    frame-by (FrameNames s) (plain-names contents 5 (payload s)) s (payload-names contents 5 (payload s))

-- whatever `frame::read` answers
pub frame_read_names : (κs : Lfts 1) (s : Bor (List ℕ)) (r : Result EdmPacket EdmPacketError) (i : AtExit (ended_of 1 read.Kinds.ps read.Kinds.r) κs) → read.Reads.Post κs (s, tt) r i
    → FrameNames s.now (shown r)
frame_read_names κs s r i e = rw e (frame-names s.now)

-- The field's number

event-seven : (a : OrRefused ReadEvent) → FieldUpToSeven a → FieldUpToSeven (of_event a)
event-seven (good (event_to e past)) h = tt
event-seven (refused n) h = h

pub frame-seven : (s : List ℕ) → FieldUpToSeven (read_frame s)
frame-seven s =
    frame-by FieldUpToSeven nothing-seven s
    (payload-by FieldUpToSeven nothing-seven 5 (payload s) (carried identifiers (word s 3)) (λ e. event-seven (read_line w26 5 (payload s)) (line_seven w26 5 (payload s) roomy-w26.0)))
