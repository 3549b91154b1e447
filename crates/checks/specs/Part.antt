-- The fields of an accepted input with their places, in its order. The bytes of all pieces, joined, are the input (proofs/PartLaws.antt), so that
-- the fields cover it with what stands between them.
use Rattle.std.specs.Prelude.{ℕ, zero, suc, ◌+◌, ◌-◌, ◌≤◌, ◌≡◌, List, [], ◌∷◌, ◌++◌, true, false, length, take, drop, Option, Some, None}
use Prim.Native.Char.{code}
use Rattle.text.specs.Bytes.{part}
use Rattle.at.specs.Event.{Event, event, ReadEvent, event_to}
use Rattle.at.specs.Response.{Response, ok, other, error}
use Rattle.edm.specs.Packet.{Packet, connect_event, disconnect_event, data_packet, data_command, at_request, at_response, at_packet, resend_packet, start_packet}
use Rattle.checks.specs.Slot.{span_of, slots_of}
use Rattle.checks.specs.declared.part.PartName.{PartName}
use Rattle.checks.specs.declared.part.Shape.{Shape}
use Rattle.checks.specs.declared.part.Shape.TheVariants as shape
use Rattle.checks.specs.declared.part.PartWalk.{PartWalk}
use Rattle.checks.specs.declared.part.PartStep.{PartStep}
use Rattle.checks.specs.declared.slot.Slot.{Slot}

-- bytes of the input: those of a field, or those that are passed over
pub data Piece : Type 0 where
  piece : PartName → List ℕ → Piece
  passed : List ℕ → Piece

-- what a slot passes over of some bytes, what follows that, what the slot takes of it, and what is left
abbrev pub passed_by : Slot → List ℕ → List ℕ
passed_by k t = take (span_of k.pass t) t

abbrev pub onward : Slot → List ℕ → List ℕ
onward k t = drop (span_of k.pass t) t

abbrev pub taken_by : Slot → List ℕ → List ℕ
taken_by k t = take (span_of k.len (onward k t)) (onward k t)

abbrev pub left_by : Slot → List ℕ → List ℕ
left_by k t = drop (span_of k.len (onward k t)) (onward k t)

-- the pieces by some slots, one after the other; what is left at the end is passed over
unfoldable pub cut : List Slot → List ℕ → List Piece
cut [] t = passed t ∷ []
cut (k ∷ ks) t = passed (passed_by k t) ∷ piece k.name (taken_by k t) ∷ cut ks (left_by k t)

-- the bytes of some pieces, one after the other
unfoldable pub joined : List Piece → List ℕ
joined [] = []
joined (piece n b ∷ ps) = b ++ joined ps
joined (passed b ∷ ps) = b ++ joined ps

-- the bytes of each field
unfoldable pub contents : List Piece → List (List ℕ)
contents [] = []
contents (piece n b ∷ ps) = b ∷ contents ps
contents (passed b ∷ ps) = contents ps

-- the bytes that are passed over: before each field, and after the last one
unfoldable pub passed_over : List Piece → List (List ℕ)
passed_over [] = []
passed_over (piece n b ∷ ps) = passed_over ps
passed_over (passed b ∷ ps) = b ∷ passed_over ps

-- where they are none, the fields alone cover the input
abbrev pub AllEmpty : List (List ℕ) → Type 0
AllEmpty [] = Unit {0}
AllEmpty (b ∷ bs) = (b ≡ []) × AllEmpty bs

-- one byte before each of so many fields: x before the first, and a comma before each other one
unfoldable pub marks_before : ℕ → ℕ → List (List ℕ)
marks_before x zero = []
marks_before x (suc k) = (x ∷ []) ∷ marks_before (code ",") k

-- a field: its name, its first byte and its number of bytes
pub data Part : Type 0 where
  ◌from◌for◌ : PartName → ℕ → ℕ → Part

infix 30 ◌from◌for◌
-- the fields of some pieces, of which the first stands at the place p
unfoldable pub placed : ℕ → List Piece → List Part
placed p [] = []
placed p (piece n b ∷ ps) = (n from p for length b) ∷ placed (p + length b) ps
placed p (passed b ∷ ps) = placed (p + length b) ps

-- the bytes of a field of the input s
abbrev pub bytes_in : List ℕ → Part → List ℕ
bytes_in s (n from p for l) = part s p l

-- fields in their order, the first at the place p or after it, and each of the others where the one before it ends, or after that
abbrev pub InOrder : ℕ → List Part → Type 0
InOrder p [] = Unit {0}
InOrder p ((n from q for l) ∷ ps) = (p ≤ q) × InOrder (q + l) ps

-- each ends at the place n or before it
abbrev pub EachWithin : ℕ → List Part → Type 0
EachWithin n [] = Unit {0}
EachWithin n ((m from q for l) ∷ ps) = (q + l ≤ n) × EachWithin n ps

-- the shape of a packet: an event of a frame ends with CR LF and the last byte
abbrev pub response_shape : ℕ → Response → Shape
response_shape p (ok start len) = shape.Response (start - p) len
response_shape p (other start len) = shape.Response (start - p) len
response_shape p error = shape.Bare

abbrev pub event_shape : ℕ → Event → Shape
event_shape m (event r vs) = shape.Event (length vs) m

abbrev pub packet_shape : Packet → Shape
packet_shape (connect_event vs) = shape.Connect
packet_shape (disconnect_event vs) = shape.Disconnect
packet_shape (data_packet vs) = shape.Data
packet_shape (data_command vs) = shape.Data
packet_shape (at_request v) = shape.Request
packet_shape (at_response r) = response_shape 5 r
packet_shape (at_packet e) = event_shape 3 e
packet_shape resend_packet = shape.Bare
packet_shape start_packet = shape.Bare

-- of a line in an input of n bytes: its text ends before the CR LF that the event ends with
abbrev pub line_shape : ℕ → ReadEvent → Shape
line_shape n (event_to e past) = event_shape (n + 2 - past) e

-- of a binary event: its data ends where the event does, and is the last of its values
abbrev pub binary_shape : ℕ → ReadEvent → Shape
binary_shape n (event_to (event r vs) past) = shape.Binary (length vs - 1) (n - past)

-- the fields of the input s by a shape, from the place p on
unfoldable pub parts_by : Shape → List ℕ → ℕ → List Part
parts_by k s p = placed p (cut (slots_of false k) (drop p s))

unfoldable pub frame_parts : List ℕ → Packet → List Part
frame_parts s k = placed 0 (cut (slots_of true (packet_shape k)) s)

-- the fields that a walk over s has before it
unfoldable pub left : List ℕ → PartWalk → List Part
left s w = placed w.at (cut (drop w.turn (slots_of w.framed w.shape)) (drop w.at s))

-- what a step of a walk says of them
abbrev pub shown : List ℕ → Option PartStep → List Part
shown s (Some p) = (p.name from p.start for p.len) ∷ left s p.rest
shown s None = []
