-- Each value of an answer came from its field, for every input that is accepted: of a line, a response, a binary event or a frame.
use Prim.Native.Nat.{ℕ, ◌+◌, ◌-◌, ◌≤◌, ◌<◌}
use mathlib.Core.Path.{◌≡◌, refl, sym, ◌∙◌}
use mathlib.Core.List.{List, [], ◌∷◌, ◌++◌, append-nil}
use mathlib.Core.Bool.{Bool, true, false}
use native.Mathlib.Omega.{arith}
use lib.Dec.{eqb, leb, ltb}
use lib.ListN.{length, take, drop, get_or, length-drop, drop_of_length-le}
use lib.Seq.{get_or-drop, get_or-take}
use borrow.Author.Tests.{eqb-true, leb-true, leb-false, ltb-false}
use Rattle.text.specs.Bytes.{part}
use Rattle.text.specs.Utf8.{utf8}
use Rattle.text.proofs.Bools.{either, by_test}
use Rattle.at.specs.Refusal.{OrRefused, good, refused}
use Rattle.at.specs.Event.{Kind, kinds_of, Value, num, place, Event, event, ReadEvent, up_to}
use Rattle.at.specs.Line.{Radio, framed, read_framed, read_line}
use Rattle.at.specs.Binary.{tried, try_rows}
use Rattle.at.specs.Response.{Response, read_response}
use Rattle.at.specs.W26.{w26}
use Rattle.at.specs.W36.{w36, binary_table}
use Rattle.at.specs.Inside.{IfGood}
use Rattle.at.proofs.InsideLaws.{line_none, response-none}
use Rattle.edm.specs.Packet.{Packet, Carries, connect, disconnect, data_event, request, response, at_event, resend, start, unknown, identifiers, carried, connect_event, data_packet, disconnect_event, at_request}
use Rattle.edm.specs.Payload.{byte, word, read_connect, read_disconnect, read_data_event, read_request, of_response, of_event, read_payload}
use Rattle.edm.specs.Frame.{delimited, length_field, payload, read_frame}
use Rattle.edm.proofs.FrameLaws.{payload-length}
use Rattle.checks.specs.Slot.{fixed, end_slot, field_slots, shape_slots, slots_of}
use Rattle.checks.specs.Part.{cut, placed, response_shape, event_shape, line_shape, binary_shape, parts_by, frame_parts}
use Rattle.checks.specs.Came.{high_first, Came, read_kinds, read_values, response_values, packet_kinds, packet_values}
use Rattle.checks.specs.declared.part.PartName.TheVariants.{StartByte, Length, Identifier, Channel, ConnectType, Protocol, RemoteAddress, RemotePort, LocalAddress, LocalPort, Data, Text}
use Rattle.checks.specs.declared.part.Shape.{Shape}
use Rattle.checks.specs.declared.part.Shape.TheVariants.{Connect, Disconnect, Data as ShapeData, Request, Bare}
use Rattle.checks.proofs.CameLaws.{Comes, no_slot, end-slot, fixed-came, rest-came, part_length, one_byte_lem, two_bytes_lem, response-came}
use Rattle.checks.proofs.LineWalk.{Keeps, keeps_26, keeps_36, LineWalk, framed-walk, event-walk}
use Rattle.checks.proofs.CameEvent.{walk-came}
use Rattle.checks.proofs.CameBinary.{binary-came}

-- of an answer that is good
good-one : {A : Type 0} (P : A → Type 0) (o : OrRefused A) → IfGood P o → (a : A) → o ≡ good a → P a
good-one P o i a e = rw e at i

-- Lines and responses in s from the place p on

abbrev EventFrom : List ℕ → ℕ → ReadEvent → Type 0
EventFrom s p e = Came (read_kinds e) s (parts_by (line_shape (length s) e) s p) (read_values e)

module _ (s : List ℕ) (p : ℕ) where
  -- where there is no byte at p, nothing is read
  or_past : {A : Type 0} (P : A → Type 0) (f : List ℕ → A) → (p ≤ length s → P (f (drop p s))) → P (f []) → P (f (drop p s))
  or_past P f within past = go (leb p (length s)) refl
    where
      go : (k : Bool) → leb p (length s) ≡ k → P (f (drop p s))
      go true k = within (leb-true p (length s) k)
      go false k = let l : length s ≤ p = omega (arith, leb-false p (length s) k) in rw (drop_of_length-le s l) past

  line_from : (radio : Radio) (k : Keeps radio) → p ≤ length s → IfGood (EventFrom s p) (read_line radio p (drop p s))
  unfolding read_line parts_by slots_of
  line_from radio k h = told (read_framed radio (framed p (drop p s))) (framed-walk radio k s (drop p s) [] p (sym (append-nil (drop p s))))
    where
      past : ℕ
      past = p + radio.spans (drop p s)

      told : (o : OrRefused Event) → IfGood (LineWalk s (length (drop p s) + 2 - radio.spans (drop p s) + 0) p) o
          → IfGood (EventFrom s p) (up_to past o)
      told (good (event r vs)) w =
          let m : length (drop p s) + 2 - radio.spans (drop p s) + 0 ≡ length s + 2 - past = omega (arith, length-drop p s) in
          rw (append-nil (field_slots 1 (length vs) (length s + 2 - past)))
          at (walk-came s (length s + 2 - past) p [] (λ ks. no_slot ks s) r vs (rw m at w))
      told (refused n) w = tt

  line_came : (radio : Radio) → Keeps radio → (e : ReadEvent) → read_line radio p (drop p s) ≡ good e → EventFrom s p e
  line_came radio k =
      good-one (EventFrom s p) (read_line radio p (drop p s))
      (or_past (IfGood (EventFrom s p)) (read_line radio p) (line_from radio k) (rw (line_none radio p) tt))

  pub w26-came : (e : ReadEvent) → read_line w26 p (drop p s) ≡ good e → Came (read_kinds e) s (parts_by (line_shape (length s) e) s p) (read_values e)
  w26-came = line_came w26 keeps_26

  pub w36-came : (e : ReadEvent) → read_line w36 p (drop p s) ≡ good e → Came (read_kinds e) s (parts_by (line_shape (length s) e) s p) (read_values e)
  w36-came = line_came w36 keeps_36

  pub binary-event-came : (e : ReadEvent) → try_rows binary_table p (drop p s) ≡ tried (good e)
      → Came (read_kinds e) s (parts_by (binary_shape (length s) e) s p) (read_values e)
  binary-event-came = binary-came s p

  abbrev ResponseFrom : Response → Type 0
  ResponseFrom r = Came [] s (parts_by (response_shape p r) s p) (response_values r)

  response-from : p ≤ length s → IfGood ResponseFrom (read_response p (drop p s))
  unfolding parts_by slots_of
  response-from h = go (read_response p (drop p s)) (response-came s p [] (no_slot [] s) (drop p s) (omega (arith, length-drop p s)))
    where
      go : (o : OrRefused Response) → IfGood (λ r. Comes [] s (shape_slots (response_shape p r) ++ []) p (response_values r)) o → IfGood ResponseFrom o
      go (good r) c = rw (append-nil (shape_slots (response_shape p r))) at c
      go (refused n) c = tt

  pub response-text-came : (r : Response) → read_response p (drop p s) ≡ good r → Came [] s (parts_by (response_shape p r) s p) (response_values r)
  response-text-came =
      good-one ResponseFrom (read_response p (drop p s))
      (or_past (IfGood ResponseFrom) (read_response p) response-from (rw (response-none p) tt))

-- Frames

abbrev PacketFrom : List ℕ → Packet → Type 0
PacketFrom s k = Came (packet_kinds k) s (frame_parts s k) (packet_values k)

module _ (s : List ℕ) (six : 6 ≤ length s) where
  t : List ℕ
  t = payload s

  long : length t ≡ length s - 6
  long = unfold t in payload-length s

  -- the three fields before a payload give no value
  before-payload : (k : Shape) (ks : List Kind) (vs : List Value) → Comes ks s (shape_slots k ++ end_slot ∷ []) 5 vs
      → Came ks s (placed 0 (cut (slots_of true k) s)) vs
  unfolding slots_of
  before-payload k ks vs c =
      let rest = shape_slots k ++ end_slot ∷ [] in
      fixed-came ks s StartByte 1 (fixed Length 2 ∷ fixed Identifier 2 ∷ rest) 0 vs (omega arith)
      (fixed-came ks s Length 2 (fixed Identifier 2 ∷ rest) 1 vs (omega arith) (fixed-came ks s Identifier 2 rest 3 vs (omega arith) c))

  -- numbers of the payload, from fields of one byte and of two
  byte_in : (i : ℕ) → i < length t → get_or t i 0 ≡ get_or s (5 + i) 0
  unfolding t
  byte_in i h = get_or-drop 5 (take (length s - 1) s) i 0 ∙ get_or-take (length s - 1) s (5 + i) 0 (omega (arith, long))

  byte-said : (i : ℕ) → i < length t → good (num (high_first 0 (part s (5 + i) 1))) ≡ good (num (byte t i))
  byte-said i h = rw (one_byte_lem s (5 + i) (omega (arith, long)), byte_in i h)

  word-said : (i : ℕ) → i + 1 < length t → good (num (high_first 0 (part s (5 + i) 2))) ≡ good (num (word t i))
  word-said i h =
      let m : 5 + i + 1 ≡ 5 + (i + 1) = omega arith in
      rw (two_bytes_lem s (5 + i) (omega (arith, long)), byte_in i (omega arith), byte_in (i + 1) h, m)

  bytes-said : (p n : ℕ) → p + n ≤ length s → good (place p (length (part s p n))) ≡ good (place p n)
  bytes-said p n h = rw (part_length s p n h)

  connect_came : IfGood (PacketFrom s) (read_connect 5 t)
  unfolding read_connect frame_parts
  connect_came =
      either (IfGood (PacketFrom s)) (ltb (length t) 2) tt
      (either (IfGood (PacketFrom s)) (eqb (byte t 1) 2)
      (by_test (IfGood (PacketFrom s)) (eqb (length t) 15) (λ e. fields (eqb-true (length t) 15 e)) (λ e. tt)) tt)
    where
      fields : length t ≡ 15
          → PacketFrom s (connect_event (num (byte t 0) ∷ num (byte t 2) ∷ place 8 4 ∷ num (word t 7) ∷ place 14 4 ∷ num (word t 13) ∷ []))
      fields l =
          let n : length s ≡ 21 = omega (arith, long) in
          before-payload Connect [] _
          (fixed-came [] s Channel 1 _ 5 _ (omega arith) (
            byte-said 0 (omega arith),
            fixed-came [] s ConnectType 1 _ 6 _ (omega arith)
                (fixed-came [] s Protocol 1 _ 7 _ (omega arith) (
                  byte-said 2 (omega arith),
                  fixed-came [] s RemoteAddress 4 _ 8 _ (omega arith) (
                    bytes-said 8 4 (omega arith),
                    fixed-came [] s RemotePort 2 _ 12 _ (omega arith) (
                      word-said 7 (omega arith),
                      fixed-came [] s LocalAddress 4 _ 14 _ (omega arith)
                          (bytes-said 14 4 (omega arith), fixed-came [] s LocalPort 2 _ 18 _ (omega arith) (word-said 13 (omega arith), end-slot [] s 20)),
                    ),
                  ),
                )),
          ))

  disconnect_came : IfGood (PacketFrom s) (read_disconnect 5 t)
  unfolding read_disconnect frame_parts
  disconnect_came = by_test (IfGood (PacketFrom s)) (eqb (length t) 1) (λ e. fields (eqb-true (length t) 1 e)) (λ e. tt)
    where
      fields : length t ≡ 1 → PacketFrom s (disconnect_event (num (byte t 0) ∷ []))
      fields l =
          before-payload Disconnect [] (num (byte t 0) ∷ [])
          (fixed-came [] s Channel 1 (end_slot ∷ []) 5 (num (byte t 0) ∷ []) (omega (arith, long)) (byte-said 0 (omega arith), end-slot [] s 6))

  data-came : IfGood (PacketFrom s) (read_data_event 5 t)
  unfolding read_data_event frame_parts
  data-came = by_test (IfGood (PacketFrom s)) (ltb (length t) 1) (λ e. tt) (λ e. fields (ltb-false (length t) 1 e))
    where
      fields : 1 ≤ length t → PacketFrom s (data_packet (num (byte t 0) ∷ place 6 (length t - 1) ∷ []))
      fields l =
          let n : length s - 6 - 1 ≡ length t - 1 = omega (arith, long) in
          before-payload ShapeData [] (num (byte t 0) ∷ place 6 (length t - 1) ∷ [])
          (fixed-came [] s Channel 1 _ 5 _ (omega (arith, long)) (
            byte-said 0 (omega arith),
            rest-came [] s Data 1 (end_slot ∷ []) 6 (place 6 (length t - 1) ∷ [])
                (rw n (bytes-said 6 (length t - 1) (omega (arith, long)), end-slot [] s (6 + (length t - 1)))),
          ))

  request_came : IfGood (PacketFrom s) (read_request 5 t)
  unfolding read_request frame_parts
  request_came = either (IfGood (PacketFrom s)) (utf8 t) fields tt
    where
      fields : PacketFrom s (at_request (place 5 (length t)))
      fields =
          let n : length s - 5 - 1 ≡ length t = omega (arith, long) in
          before-payload Request [] (place 5 (length t) ∷ [])
          (rest-came [] s Text 1 (end_slot ∷ []) 5 (place 5 (length t) ∷ [])
          (rw n (bytes-said 5 (length t) (omega (arith, long)), end-slot [] s (5 + length t))))

  response-packet-came : IfGood (PacketFrom s) (of_response (read_response 5 t))
  unfolding frame_parts
  response-packet-came = go (read_response 5 t) (response-came s 5 (end_slot ∷ []) (end-slot [] s) t (omega (arith, long)))
    where
      go : (o : OrRefused Response) → IfGood (λ r. Comes [] s (shape_slots (response_shape 5 r) ++ end_slot ∷ []) 5 (response_values r)) o
          → IfGood (PacketFrom s) (of_response o)
      go (good r) c = before-payload (response_shape 5 r) [] (response_values r) c
      go (refused n) c = tt

  event-packet-came : IfGood (PacketFrom s) (of_event (read_line w26 5 t))
  unfolding read_line frame_parts t
  event-packet-came = told (read_framed w26 (framed 5 t)) (event-walk s six)
    where
      told : (o : OrRefused Event) → IfGood (LineWalk s 3 5) o → IfGood (PacketFrom s) (of_event (up_to (5 + length t) o))
      told (good (event r vs)) w =
          before-payload (event_shape 3 (event r vs)) (kinds_of r) vs (walk-came s 3 5 (end_slot ∷ []) (λ ks. end-slot ks s) r vs w)
      told (refused n) w = tt

  payload-came : (c : Carries) → IfGood (PacketFrom s) (read_payload c 5 t)
  unfolding frame_parts
  payload-came connect = connect_came
  payload-came disconnect = disconnect_came
  payload-came data_event = data-came
  payload-came request = request_came
  payload-came response = response-packet-came
  payload-came at_event = event-packet-came
  payload-came resend = before-payload Bare [] [] (end-slot [] s 5)
  payload-came start = before-payload Bare [] [] (end-slot [] s 5)
  payload-came unknown = tt

pub frame-came : (s : List ℕ) (k : Packet) → read_frame s ≡ good k → Came (packet_kinds k) s (frame_parts s k) (packet_values k)
unfolding read_frame t
frame-came s =
    good-one (PacketFrom s) (read_frame s)
    (either (IfGood (PacketFrom s)) (delimited s)
    (by_test (IfGood (PacketFrom s)) (ltb (length s) 6) (λ e. tt)
    (λ e. either (IfGood (PacketFrom s)) (eqb (length_field s) (length (payload s) + 2))
    (payload-came s (ltb-false (length s) 6 e) (carried identifiers (word s 3))) tt)) tt)
