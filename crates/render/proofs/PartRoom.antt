-- How long the line of an accepted input is: by the slots into which it is cut, of which there are few, since no event has more than seven fields.
use Prim.Native.Nat.{ℕ, zero, suc, ◌+◌, ◌*◌, ◌-◌, ◌≤◌, ◌<◌}
use mathlib.Core.Path.{◌≡◌, refl}
use mathlib.Core.List.{List, [], ◌∷◌, ◌++◌, append-nil, append_assoc}
use mathlib.Core.Bool.{Bool, true, false}
use native.Mathlib.Omega.{arith}
use lib.Dec.{leb}
use lib.ListN.{length, length-append}
use borrow.Author.Tests.{leb-true}
use Rattle.text.specs.Bytes.{bytes}
use Rattle.text.specs.Decimal.{decimal}
use Rattle.text.proofs.Bools.{and_left, and_right}
use Rattle.at.specs.Refusal.{OrRefused, good, refused}
use Rattle.at.specs.Event.{Kind, Row, kinds_of, Value, num, place, event, ReadEvent, event_to}
use Rattle.at.specs.Parts.{row_no}
use Rattle.at.specs.Response.{Response, ok, other, error}
use Rattle.at.specs.Binary as reader
use Rattle.at.specs.Inside.{IfGood}
use Rattle.at.specs.Typed.{OfKinds, OfKindsThenData, ReadTextOf, TriedTyped}
use Rattle.at.specs.W26 as w26
use Rattle.at.specs.W36 as w36
use Rattle.edm.specs.Packet.{Packet, connect_event, disconnect_event, data_packet, data_command, at_request, at_response, at_packet, resend_packet, start_packet}
use Rattle.edm.specs.Typed.{PacketTyped}
use Rattle.checks.specs.Slot.{field_slots, marked_slots, marked_tail, name_slot, shape_slots, end_slot, slots_of}
use Rattle.checks.specs.Part.{Piece, piece, passed, cut, joined, placed, ◌from◌for◌, response_shape, packet_shape, line_shape, binary_shape, parts_by, frame_parts}
use Rattle.checks.specs.Explained.{fields_in}
use Rattle.checks.proofs.PartLaws.{cut-joined}
use Rattle.checks.specs.declared.part.PartName.{PartName}
use Rattle.checks.specs.declared.part.Shape.{Shape}
use Rattle.checks.specs.declared.part.Shape.TheVariants as shape
use Rattle.render.specs.Words.{name_in}
use Rattle.render.specs.Label.{part_names, part_word}
use Rattle.render.specs.Explained.{part_line, parts_line, accepted_line, fields_tried}
use Rattle.render.proofs.WordLengths.{decimal-within, names_within, name_within}
use Rattle.render.proofs.RowTests.{rows_pass}

-- A field's name, and two places of at most six digits

part_room : (n : PartName) (p l m : ℕ) → p + l ≤ m → m < 1000000 → length (part_line (n from p for l)) ≤ length (part_word n) + 15
part_room n p l m h k =
    let w = part_word n in
    let a = length-append (w ++ bytes "@" ++ decimal p ++ bytes "+") (decimal l) in
    let b = length-append (w ++ bytes "@" ++ decimal p) (bytes "+") in
    let c = length-append (w ++ bytes "@") (decimal p) in
    let d = length-append w (bytes "@") in
    omega (arith, a, b, c, d, decimal-within 5 p (omega arith), decimal-within 5 l (omega arith))

unfoldable pieces_room : List Piece → ℕ
pieces_room [] = 0
pieces_room (piece n b ∷ ps) = length (part_word n) + 15 + pieces_room ps
pieces_room (passed b ∷ ps) = pieces_room ps

placed-room : (ps : List Piece) (p m : ℕ) → p + length (joined ps) ≤ m → m < 1000000 → length (parts_line (placed p ps)) ≤ pieces_room ps
unfolding placed joined parts_line pieces_room
placed-room [] p m h k = omega arith
placed-room (piece n b ∷ ps) p m h k =
    let l = length-append b (joined ps) in
    let one = part_room n p (length b) m (omega arith) k in
    let rest = placed-room ps (p + length b) m (omega arith) k in
    omega (arith, one, rest, length-append (part_line (n from p for length b)) (parts_line (placed (p + length b) ps)))
placed-room (passed b ∷ ps) p m h k = placed-room ps (p + length b) m (omega (arith, length-append b (joined ps))) k

-- What each shape is cut into

name_room : (n : ℕ) → length (name_in part_names n) ≤ 13
unfolding part_names names_within
name_room n = name_within 13 part_names refl n

field_room : (i : ℕ) → i ≤ 9 → length (name_in part_names 14 ++ decimal i) ≤ 14
unfolding part_names name_in
field_room i h = omega (arith, decimal-within 0 i (omega arith))

-- one field, and the rest, which takes no more than c
abbrev Within : (List ℕ → List Piece) → ℕ → Type 0
Within pieces c = (t : List ℕ) → pieces_room (pieces t) ≤ c

head-room : (a b : List ℕ) (n : PartName) (ps : List Piece) (w c : ℕ) → length (part_word n) ≤ w → pieces_room ps ≤ c → pieces_room (passed a ∷ piece n b ∷ ps) ≤ w + 15 + c
unfolding pieces_room
head-room a b n ps w c h rest = omega (arith, h, rest)

fields-room : (ks : List _) (c : ℕ) → Within (cut ks) c → (i k m : ℕ) → i + k ≤ 10 → Within (cut (field_slots i k m ++ ks)) (k * 29 + c)
unfolding cut field_slots
fields-room ks c rest i zero m h t = omega (arith, rest t)
fields-room ks c rest i (suc k) m h t =
    let e : pieces_room (cut (field_slots i (suc k) m ++ ks) t) ≤ 14 + 15 + (k * 29 + c) = head-room _ _ _ _ 14 (k * 29 + c) (field_room i (omega arith)) (fields-room ks c rest (suc i) k m (omega arith) _) in
    omega (arith, e)

marked-room : (ks : List _) (c : ℕ) → Within (cut ks) c → (i k m : ℕ) → i + k ≤ 10 → Within (cut (marked_slots i k m ++ ks)) (k * 29 + c)
unfolding cut marked_slots
marked-room ks c rest i zero m h t = omega (arith, rest t)
marked-room ks c rest i (suc zero) m h t =
    let e : pieces_room (cut (marked_slots i (suc zero) m ++ ks) t) ≤ 14 + 15 + c = head-room _ _ _ _ 14 c (field_room i (omega arith)) (rest _) in
    omega (arith, e)
marked-room ks c rest i (suc (suc k)) m h t =
    let e : pieces_room (cut (marked_slots i (suc (suc k)) m ++ ks) t) ≤ 14 + 15 + (suc k * 29 + c) = head-room _ _ _ _ 14 (suc k * 29 + c) (field_room i (omega arith)) (marked-room ks c rest (suc i) (suc k) m (omega arith) _) in
    omega (arith, e)

abbrev pub Few : Shape → Type 0
Few shape.Connect = Unit {0}
Few shape.Disconnect = Unit {0}
Few shape.Data = Unit {0}
Few shape.Request = Unit {0}
Few (shape.Response skip len) = Unit {0}
Few shape.Bare = Unit {0}
Few (shape.Event k m) = k ≤ 7
Few (shape.Binary k m) = k ≤ 7

none-cut : Within (cut []) 0
unfolding cut pieces_room
none-cut t = omega arith

-- a payload, a line or a response, and what the rest is cut into
shape-room : (ks : List _) (c : ℕ) → Within (cut ks) c → (k : Shape) → Few k → Within (cut (shape_slots k ++ ks)) (320 + c)
unfolding cut
shape-room ks c rest shape.Connect h t =
    let e : pieces_room (cut (shape_slots shape.Connect ++ ks) t) ≤ 13 + 15 + (13 + 15 + (13 + 15 + (13 + 15 + (13 + 15 + (13 + 15 + (13 + 15 + c)))))) = head-room _ _ _ _ 13 _ (name_room 4) (head-room _ _ _ _ 13 _ (name_room 5) (head-room _ _ _ _ 13 _ (name_room 6) (head-room _ _ _ _ 13 _ (name_room 7) (head-room _ _ _ _ 13 _ (name_room 8) (head-room _ _ _ _ 13 _ (name_room 9) (head-room _ _ _ _ 13 _ (name_room 10) (rest _))))))) in
    omega (arith, e)
shape-room ks c rest shape.Disconnect h t =
    let e : pieces_room (cut (shape_slots shape.Disconnect ++ ks) t) ≤ 13 + 15 + c = head-room _ _ _ _ 13 _ (name_room 4) (rest _) in
    omega (arith, e)
shape-room ks c rest shape.Data h t =
    let e : pieces_room (cut (shape_slots shape.Data ++ ks) t) ≤ 13 + 15 + (13 + 15 + c) = head-room _ _ _ _ 13 _ (name_room 4) (head-room _ _ _ _ 13 _ (name_room 11) (rest _)) in
    omega (arith, e)
shape-room ks c rest shape.Request h t =
    let e : pieces_room (cut (shape_slots shape.Request ++ ks) t) ≤ 13 + 15 + c = head-room _ _ _ _ 13 _ (name_room 12) (rest _) in
    omega (arith, e)
shape-room ks c rest (shape.Response skip len) h t =
    let e : pieces_room (cut (shape_slots (shape.Response skip len) ++ ks) t) ≤ 13 + 15 + c = head-room _ _ _ _ 13 _ (name_room 12) (rest _) in
    omega (arith, e)
shape-room ks c rest shape.Bare h t = omega (arith, rest t)
shape-room ks c rest (shape.Event k m) h t =
    let e : pieces_room (cut (shape_slots (shape.Event k m) ++ ks) t) ≤ 13 + 15 + (k * 29 + c) = head-room _ _ _ _ 13 _ (name_room 13) (fields-room ks c rest 1 k m (omega arith) _) in
    omega (arith, e)
shape-room ks c rest (shape.Binary k m) h t =
    let tail : Within (cut (marked_tail m ++ ks)) (13 + 15 + (13 + 15 + (13 + 15 + c))) = λ u. head-room _ _ _ _ 13 _ (name_room 15) (head-room _ _ _ _ 13 _ (name_room 16) (head-room _ _ _ _ 13 _ (name_room 11) (rest _))) in
    let e : pieces_room (cut (name_slot m ∷ marked_slots 1 k m ++ (marked_tail m ++ ks)) t) ≤ 13 + 15 + (k * 29 + (13 + 15 + (13 + 15 + (13 + 15 + c)))) = head-room _ _ _ _ 13 _ (name_room 13) (marked-room (marked_tail m ++ ks) _ tail 1 k m (omega arith) _) in
    rw (append_assoc (marked_slots 1 k m) (marked_tail m) ks) (omega (arith, e))

slots_room : (framed : Bool) (k : Shape) → Few k → Within (cut (slots_of framed k)) 440
unfolding cut slots_of
slots_room true k h t =
    let last : Within (cut (end_slot ∷ [])) (13 + 15 + 0) = λ u. head-room _ _ _ _ 13 0 (name_room 17) (none-cut _) in
    let e : pieces_room (cut (slots_of true k) t) ≤ 13 + 15 + (13 + 15 + (13 + 15 + (320 + (13 + 15 + 0)))) = head-room _ _ _ _ 13 _ (name_room 1) (head-room _ _ _ _ 13 _ (name_room 2) (head-room _ _ _ _ 13 _ (name_room 3) (shape-room (end_slot ∷ []) _ last k h _))) in
    omega (arith, e)
slots_room false k h t = let e = rw (append-nil (shape_slots k)) at (shape-room [] 0 none-cut k h t) in omega (arith, e)

-- the fields of all pieces of an input
whole_room : (framed : Bool) (k : Shape) → Few k → (s : List ℕ) → length s ≤ 131072 → length (parts_line (placed 0 (cut (slots_of framed k) s))) ≤ 440
whole_room framed k h s l =
    let all : 0 + length (joined (cut (slots_of framed k) s)) ≤ length s = rw (cut-joined (slots_of framed k) s) (omega arith) in
    omega (arith, placed-room (cut (slots_of framed k) s) 0 (length s) all (omega arith), slots_room framed k h s)

-- No event has more than seven fields

abbrev pub seven : Row → Bool
seven r = leb (length (kinds_of r)) 7

pub sevens : (rows_pass seven w26.table ≡ true) × (rows_pass seven w36.table ≡ true) × (rows_pass seven w36.binary_table ≡ true)
unfolding rows_pass w26.table w36.table w36.binary_table
sevens = (refl, refl, refl)

listed-seven : (rows : List Row) (i : ℕ) (r : Row) → rows_pass seven rows ≡ true → row_no rows i ≡ good r → length (kinds_of r) ≤ 7
unfolding rows_pass row_no
listed-seven [] i r t e = let z : ◌≡◌ {A = ℕ} 0 1 = cc in absurd (omega arith)
listed-seven (q ∷ rs) zero r t e =
    let f : q ≡ r = cc in
    rw f at (leb-true (length (kinds_of q)) 7 (and_left (seven q) (rows_pass seven rs) t))
listed-seven (q ∷ rs) (suc i) r t e = listed-seven rs i r (and_right (seven q) (rows_pass seven rs) t) e

kinds-counted : (s : List ℕ) (ks : List Kind) (vs : List Value) → OfKinds s ks vs → length vs ≤ length ks
kinds-counted s [] [] h = omega arith
kinds-counted s [] (v ∷ vs) h = absurd h
kinds-counted s (k ∷ ks) [] h = absurd h
kinds-counted s (k ∷ ks) (v ∷ vs) h = omega (arith, kinds-counted s ks vs h.1)

data-counted : (s : List ℕ) (ks : List Kind) (vs : List Value) → OfKindsThenData s ks vs → length vs ≤ suc (length ks)
data-counted s [] [] h = absurd h
data-counted s [] (num x ∷ vs) h = absurd h
data-counted s [] (place p n ∷ []) h = omega arith
data-counted s [] (place p n ∷ v ∷ vs) h = absurd h
data-counted s (k ∷ ks) [] h = absurd h
data-counted s (k ∷ ks) (v ∷ vs) h = omega (arith, data-counted s ks vs h.1)

-- The line of what was accepted

module _ (s : List ℕ) (l : length s ≤ 131072) where
  few_parts : (k : Shape) → Few k → length (accepted_line (parts_by k s 0)) ≤ 500
  unfolding parts_by
  few_parts k h = omega (arith, whole_room false k h s l)

  none-room : length (accepted_line []) ≤ 500
  unfolding parts_line
  none-room = omega arith

  pub line_parts_room : (rows : List Row) → rows_pass seven rows ≡ true → (a : OrRefused ReadEvent) → IfGood (ReadTextOf rows s) a
      → length (accepted_line (fields_in (λ e. parts_by (line_shape (length s) e) s 0) a)) ≤ 500
  line_parts_room rows t (good (event_to (event r vs) past)) h =
      few_parts (shape.Event (length vs) (length s + 2 - past)) (omega (arith, listed-seven rows h.0.0 r t h.0.1, kinds-counted s (kinds_of r) vs h.1))
  line_parts_room rows t (refused n) h = none-room

  pub binary_parts_room : (t : reader.Tried) → TriedTyped w36.binary_table s t
      → length (accepted_line (fields_tried (λ e. parts_by (binary_shape (length s) e) s 0) t)) ≤ 500
  binary_parts_room reader.not_binary h = none-room
  binary_parts_room (reader.tried (good (event_to (event r vs) past))) h =
      few_parts (shape.Binary (length vs - 1) (length s - past))
      (omega (arith, listed-seven w36.binary_table h.0.0 r sevens.2 h.0.1, data-counted s (kinds_of r) vs h.1))
  binary_parts_room (reader.tried (refused n)) h = none-room

  response-few : (p : ℕ) (r : Response) → Few (response_shape p r)
  response-few p (ok start len) = tt
  response-few p (other start len) = tt
  response-few p error = tt

  pub response_parts_room : (a : OrRefused Response) → length (accepted_line (fields_in (λ r. parts_by (response_shape 0 r) s 0) a)) ≤ 500
  response_parts_room (good r) = few_parts (response_shape 0 r) (response-few 0 r)
  response_parts_room (refused n) = none-room

  packet-few : (k : Packet) → PacketTyped s k → Few (packet_shape k)
  packet-few (connect_event vs) h = tt
  packet-few (disconnect_event vs) h = tt
  packet-few (data_packet vs) h = tt
  packet-few (data_command vs) h = tt
  packet-few (at_request v) h = tt
  packet-few (at_response r) h = response-few 5 r
  packet-few (at_packet (event r vs)) h = omega (arith, listed-seven w26.table h.0.0 r sevens.0 h.0.1, kinds-counted s (kinds_of r) vs h.1)
  packet-few resend_packet h = tt
  packet-few start_packet h = tt

  pub frame_parts_room : (a : OrRefused Packet) → IfGood (PacketTyped s) a → length (accepted_line (fields_in (frame_parts s) a)) ≤ 500
  unfolding frame_parts
  frame_parts_room (good k) h = omega (arith, whole_room true (packet_shape k) (packet-few k h) s l)
  frame_parts_room (refused n) h = none-room
