-- What the fields of an accepted input leave over: of a frame that carries a connection, data or a request nothing; of an event line its first two
-- bytes, the colon and the commas, and what follows the last field; and the same of a frame that carries an event, up to its last byte.
use Prim.Native.Nat.{ℕ, suc, ◌+◌, ◌-◌, ◌≤◌}
use mathlib.Core.Path.{◌≡◌, refl, sym, ◌∙◌}
use mathlib.Core.List.{List, [], ◌∷◌, ◌++◌, append-nil}
use mathlib.Core.Bool.{Bool, true, false}
use native.Mathlib.Omega.{arith}
use lib.Dec.{eqb, leb, ltb}
use lib.ListN.{length, take, drop, length-take, length-drop, drop_of_length-le}
use lib.Seq.{drop-drop, length-take-le}
use borrow.Author.Tests.{eqb-true, leb-true, leb-false, ltb-false}
use Rattle.text.specs.Utf8.{utf8}
use Rattle.text.proofs.Bools.{either, by_test}
use Rattle.text.proofs.FindLaws.{first_le}
use Rattle.at.specs.Refusal.{OrRefused, good, refused}
use Rattle.at.specs.Event.{Kind, Row, kinds_of, Value, Event, event, ReadEvent, event_to, up_to}
use Rattle.at.specs.Line.{Radio, framed, read_framed, read_line}
use Rattle.at.specs.Response.{Response, read_response}
use Rattle.at.specs.W26.{w26}
use Rattle.at.specs.W36.{w36}
use Rattle.at.specs.Inside.{IfGood}
use Rattle.at.proofs.InsideLaws.{line_none}
use Rattle.edm.specs.Packet.{Packet, Carries, connect, disconnect, data_event, request, response, at_event, resend, start, unknown, identifiers, carried, connect_event, disconnect_event, data_packet, data_command, at_request, at_response, at_packet, resend_packet, start_packet}
use Rattle.edm.specs.Payload.{byte, word, read_connect, read_disconnect, read_data_event, read_request, of_response, of_event, read_payload}
use Rattle.edm.specs.Frame.{delimited, length_field, payload, read_frame}
use Rattle.edm.proofs.FrameLaws.{payload-length}
use Rattle.checks.specs.Slot.{span_of, slot, fixed, end_slot, name_slot, field_slots, shape_slots, slots_of}
use Rattle.checks.specs.Part.{cut, passed_over, AllEmpty, marks_before, event_shape, packet_shape, line_shape}
use Rattle.checks.specs.Came.{event_values, read_values}
use Rattle.checks.specs.declared.part.PartName.{PartName}
use Rattle.checks.specs.declared.part.PartName.TheVariants.{StartByte, Length, Identifier, Channel, ConnectType, Protocol, RemoteAddress, RemotePort, LocalAddress, LocalPort, Data, Text, Field}
use Rattle.checks.specs.declared.part.Shape.{Shape}
use Rattle.checks.specs.declared.part.Shape.TheVariants.{Connect, Disconnect, Data as ShapeData, Request}
use Rattle.checks.specs.declared.slot.Slot.{Slot}
use Rattle.checks.specs.declared.slot.Span.TheVariants.{Exactly, AllBut, UpTo}
use Rattle.checks.proofs.LineWalk.{FieldWalk, LineWalk, Keeps, keeps_26, keeps_36, framed-walk, event-walk}

-- what some slots pass over of s from the place p on
abbrev pub Passed : List ℕ → List Slot → ℕ → List (List ℕ)
Passed s slots p = passed_over (cut slots (drop p s))

pub slot-passed : (s : List ℕ) (k : Slot) (rest : List Slot) (p over len : ℕ) → span_of k.pass (drop p s) ≡ over
    → span_of k.len (drop (p + over) s) ≡ len
    → Passed s (k ∷ rest) p ≡ take over (drop p s) ∷ Passed s rest (p + over + len)
unfolding cut passed_over
slot-passed s k rest p over len eo el = rw (eo, drop-drop over p s, el, drop-drop len (p + over) s)

-- An event line

-- what goes up to a byte of a text ends where the text does, or before
span_in_text : (s : List ℕ) (b m q n : ℕ) → q + m ≤ length s → span_of (UpTo b m) (drop q s) ≡ n → q + n + m ≤ length s
unfolding span_of
span_in_text s b m q n h e =
    let t = drop q s in
    omega (arith, first_le (b ∷ []) (take (length t - m) t), length-take (length t - m) t, length-drop q s)

-- its fields and any slots after them, which begin at a place d of the text or at its end
module _ (s : List ℕ) (m : ℕ) (tail : List Slot) where
  fields-passed : (j : ℕ) (ks : List Kind) (c x : ℕ) (vs : List Value) → c + m ≤ length s → FieldWalk s m j ks c x vs
      → (d : ℕ) × (d + m ≤ length s) × (Passed s (field_slots (suc j) (length vs) m ++ tail) c ≡ marks_before x (length vs) ++ Passed s tail d)
  unfolding field_slots span_of marks_before
  fields-passed j ks c x [] h w = (c, h, refl)
  fields-passed j [] c x (v ∷ vs) h w = absurd w
  fields-passed j (k ∷ ks) c x (v ∷ vs) h w =
      let f = w.1 in
      let more = fields-passed (suc j) ks (c + 1 + w.0) 44 vs (span_in_text s 44 m (c + 1) w.0 f.room f.span) w.2 in
      let l : length (take 1 (drop c s)) ≡ 1 = rw f.mark in
      let e = slot-passed s (slot (Exactly 1) (Field (suc j)) (UpTo 44 m)) (field_slots (suc (suc j)) (length vs) m ++ tail) c 1 w.0 l f.span in
      (more.0, more.1, e ∙ rw (f.mark, more.2))

  walk-passed : (p : ℕ) (r : Row) (vs : List Value) → LineWalk s m p (event r vs)
      → (d : ℕ)
      × (d + m ≤ length s)
      × (Passed s (name_slot m ∷ field_slots 1 (length vs) m ++ tail) p ≡ take 2 (drop p s) ∷ marks_before 58 (length vs) ++ Passed s tail d)
  unfolding span_of
  walk-passed p r vs w =
      let l = length-take-le 2 (drop p s) (omega (arith, w.1.room, length-drop p s)) in
      let more = fields-passed 0 (kinds_of r) (p + 2 + w.0) 58 vs (span_in_text s 58 m (p + 2) w.0 w.1.room w.1.span) w.2 in
      (more.0, more.1, slot-passed s (name_slot m) (field_slots 1 (length vs) m ++ tail) p 2 w.0 l w.1.span ∙ rw more.2)

-- its first two bytes; a colon before the first field and a comma before each other one; and the rest of s after the last field
abbrev pub LinePassed : List ℕ → ℕ → ReadEvent → Type 0
LinePassed s p e =
    (d : ℕ) × (Passed s (slots_of false (line_shape (length s) e)) p ≡ take 2 (drop p s) ∷ marks_before 58 (length (read_values e)) ++ drop d s ∷ [])

module _ (s : List ℕ) (p : ℕ) where
  line_passed : (radio : Radio) (k : Keeps radio) → p ≤ length s → IfGood (LinePassed s p) (read_line radio p (drop p s))
  unfolding read_line slots_of cut passed_over
  line_passed radio k h = told (read_framed radio (framed p (drop p s))) (framed-walk radio k s (drop p s) [] p (sym (append-nil (drop p s))))
    where
      past : ℕ
      past = p + radio.spans (drop p s)

      told : (o : OrRefused Event) → IfGood (LineWalk s (length (drop p s) + 2 - radio.spans (drop p s) + 0) p) o
          → IfGood (LinePassed s p) (up_to past o)
      told (good (event r vs)) w =
          let m : length (drop p s) + 2 - radio.spans (drop p s) + 0 ≡ length s + 2 - past = omega (arith, length-drop p s) in
          let f = walk-passed s (length s + 2 - past) [] p r vs (rw m at w) in
          (f.0, rw (append-nil (field_slots 1 (length vs) (length s + 2 - past))) at f.2)
      told (refused n) w = tt

  accepted-passed : (radio : Radio) → Keeps radio → (e : ReadEvent) → read_line radio p (drop p s) ≡ good e → LinePassed s p e
  accepted-passed radio k e f = go (leb p (length s)) refl
    where
      go : (b : Bool) → leb p (length s) ≡ b → LinePassed s p e
      go true q = rw f at (line_passed radio k (leb-true p (length s) q))
      go false q =
          let l : length s ≤ p = omega (arith, leb-false p (length s) q) in
          let g = rw (drop_of_length-le s l, line_none radio p) at f in
          absurd cc

  pub w26-passed : (e : ReadEvent) → read_line w26 p (drop p s) ≡ good e → LinePassed s p e
  w26-passed = accepted-passed w26 keeps_26

  pub w36-passed : (e : ReadEvent) → read_line w36 p (drop p s) ≡ good e → LinePassed s p e
  w36-passed = accepted-passed w36 keeps_36

-- A frame

module _ (s : List ℕ) where
  -- slots that pass nothing over
  pub fixed-passed : (n : PartName) (k : ℕ) (rest : List Slot) (p : ℕ) → p + k ≤ length s → Passed s (fixed n k ∷ rest) p ≡ [] ∷ Passed s rest (p + k)
  unfolding span_of
  fixed-passed n k rest p h =
      let z : p + 0 ≡ p = omega arith in
      let l = length-take-le k (drop (p + 0) s) (omega (arith, length-drop (p + 0) s)) in
      slot-passed s (fixed n k) rest p 0 k refl l ∙ rw z

  pub rest-passed : (n : PartName) (m : ℕ) (rest : List Slot) (p : ℕ)
      → Passed s (slot (Exactly 0) n (AllBut m) ∷ rest) p ≡ [] ∷ Passed s rest (p + (length s - p - m))
  unfolding span_of
  rest-passed n m rest p =
      let z : p + 0 ≡ p = omega arith in
      let l : length (drop (p + 0) s) - m ≡ length s - p - m = omega (arith, length-drop (p + 0) s) in
      slot-passed s (slot (Exactly 0) n (AllBut m)) rest p 0 (length s - p - m) refl l ∙ rw z

  -- the last byte, and what stands before it from the place p on
  end-passed : (p : ℕ) → p + 1 ≤ length s → Passed s (end_slot ∷ []) p ≡ take (length s - 1 - p) (drop p s) ∷ [] ∷ []
  unfolding span_of cut passed_over
  end-passed p h =
      let n = length s - 1 - p in
      let z : length (drop p s) - 1 ≡ n = omega (arith, length-drop p s) in
      let l = length-take-le 1 (drop (p + n) s) (omega (arith, length-drop (p + n) s)) in
      let past : length s ≤ p + n + 1 = omega arith in
      slot-passed s end_slot [] p n 1 z l ∙ rw (drop_of_length-le s past)

  -- the three fields before a payload
  front_passed : (k : Shape) → 6 ≤ length s → passed_over (cut (slots_of true k) s) ≡ [] ∷ [] ∷ [] ∷ Passed s (shape_slots k ++ end_slot ∷ []) 5
  unfolding slots_of
  front_passed k six =
      let rest = shape_slots k ++ end_slot ∷ [] in
      fixed-passed StartByte 1 (fixed Length 2 ∷ fixed Identifier 2 ∷ rest) 0 (omega arith)
      ∙ rw (fixed-passed Length 2 (fixed Identifier 2 ∷ rest) 1 (omega arith), fixed-passed Identifier 2 rest 3 (omega arith))

  fixed-whole : (n : PartName) (k : ℕ) (rest : List Slot) (p : ℕ) → p + k ≤ length s → AllEmpty (Passed s rest (p + k))
      → AllEmpty (Passed s (fixed n k ∷ rest) p)
  fixed-whole n k rest p h w = rw (fixed-passed n k rest p h) (refl, w)

  rest-whole : (n : PartName) (m : ℕ) (rest : List Slot) (p : ℕ) → AllEmpty (Passed s rest (p + (length s - p - m)))
      → AllEmpty (Passed s (slot (Exactly 0) n (AllBut m) ∷ rest) p)
  rest-whole n m rest p w = rw (rest-passed n m rest p) (refl, w)

  end_whole : (p : ℕ) → p + 1 ≡ length s → AllEmpty (Passed s (end_slot ∷ []) p)
  end_whole p h = let z : length s - 1 - p ≡ 0 = omega arith in rw (end-passed p (omega arith), z) (refl, (refl, tt))

  -- the packets that are covered
  abbrev pub Covered : Packet → Type 0
  Covered (connect_event vs) = AllEmpty (passed_over (cut (slots_of true Connect) s))
  Covered (disconnect_event vs) = AllEmpty (passed_over (cut (slots_of true Disconnect) s))
  Covered (data_packet vs) = AllEmpty (passed_over (cut (slots_of true ShapeData) s))
  Covered (data_command vs) = AllEmpty (passed_over (cut (slots_of true ShapeData) s))
  Covered (at_request v) = AllEmpty (passed_over (cut (slots_of true Request) s))
  Covered (at_response r) = Unit {0}
  Covered (at_packet e) = Unit {0}
  Covered resend_packet = Unit {0}
  Covered start_packet = Unit {0}

  module _ (six : 6 ≤ length s) where
    long : length (payload s) ≡ length s - 6
    long = payload-length s

    before-payload : (k : Shape) → AllEmpty (Passed s (shape_slots k ++ end_slot ∷ []) 5) → AllEmpty (passed_over (cut (slots_of true k) s))
    before-payload k w = rw (front_passed k six) (refl, (refl, (refl, w)))

    connect_whole : IfGood Covered (read_connect 5 (payload s))
    unfolding read_connect
    connect_whole =
        either (IfGood Covered) (ltb (length (payload s)) 2) tt
        (either (IfGood Covered) (eqb (byte (payload s) 1) 2)
        (by_test (IfGood Covered) (eqb (length (payload s)) 15) (λ e. fields (eqb-true (length (payload s)) 15 e)) (λ e. tt)) tt)
      where
        fields : length (payload s) ≡ 15 → AllEmpty (passed_over (cut (slots_of true Connect) s))
        fields l =
            let n : length s ≡ 21 = omega (arith, long) in
            before-payload Connect
            (fixed-whole Channel 1 _ 5 (omega arith)
            (fixed-whole ConnectType 1 _ 6 (omega arith)
            (fixed-whole Protocol 1 _ 7 (omega arith)
            (fixed-whole RemoteAddress 4 _ 8 (omega arith)
            (fixed-whole RemotePort 2 _ 12 (omega arith)
            (fixed-whole LocalAddress 4 _ 14 (omega arith) (fixed-whole LocalPort 2 _ 18 (omega arith) (end_whole 20 (sym n)))))))))

    disconnect_whole : IfGood Covered (read_disconnect 5 (payload s))
    unfolding read_disconnect
    disconnect_whole = by_test (IfGood Covered) (eqb (length (payload s)) 1) (λ e. fields (eqb-true (length (payload s)) 1 e)) (λ e. tt)
      where
        fields : length (payload s) ≡ 1 → AllEmpty (passed_over (cut (slots_of true Disconnect) s))
        fields l =
            let n : length s ≡ 7 = omega (arith, long) in
            before-payload Disconnect (fixed-whole Channel 1 (end_slot ∷ []) 5 (omega arith) (end_whole 6 (sym n)))

    data-whole : IfGood Covered (read_data_event 5 (payload s))
    unfolding read_data_event
    data-whole = by_test (IfGood Covered) (ltb (length (payload s)) 1) (λ e. tt) (λ e. fields (ltb-false (length (payload s)) 1 e))
      where
        fields : 1 ≤ length (payload s) → AllEmpty (passed_over (cut (slots_of true ShapeData) s))
        fields l =
            before-payload ShapeData
            (fixed-whole Channel 1 (slot (Exactly 0) Data (AllBut 1) ∷ end_slot ∷ []) 5 (omega (arith, long))
            (rest-whole Data 1 (end_slot ∷ []) 6 (end_whole (6 + (length s - 6 - 1)) (omega (arith, long)))))

    request_whole : IfGood Covered (read_request 5 (payload s))
    unfolding read_request
    request_whole =
        either (IfGood Covered) (utf8 (payload s))
        (before-payload Request (rest-whole Text 1 (end_slot ∷ []) 5 (end_whole (5 + (length s - 5 - 1)) (omega (arith, long))))) tt

    payload-whole : (c : Carries) → IfGood Covered (read_payload c 5 (payload s))
    payload-whole connect = connect_whole
    payload-whole disconnect = disconnect_whole
    payload-whole data_event = data-whole
    payload-whole request = request_whole
    payload-whole response = go (read_response 5 (payload s))
      where
        go : (o : OrRefused Response) → IfGood Covered (of_response o)
        go (good r) = tt
        go (refused n) = tt
    payload-whole at_event = go (read_line w26 5 (payload s))
      where
        go : (o : OrRefused ReadEvent) → IfGood Covered (of_event o)
        go (good (event_to e past)) = tt
        go (refused n) = tt
    payload-whole resend = tt
    payload-whole start = tt
    payload-whole unknown = tt

  -- what holds of each payload that is accepted holds of an accepted frame
  of_frame : (P : Packet → Type 0) → (6 ≤ length s → (c : Carries) → IfGood P (read_payload c 5 (payload s)))
      → (k : Packet) → read_frame s ≡ good k → P k
  unfolding read_frame
  of_frame P each k e = rw e at whole
    where
      whole : IfGood P (read_frame s)
      whole =
          either (IfGood P) (delimited s)
          (by_test (IfGood P) (ltb (length s) 6) (λ e. tt)
          (λ e. either (IfGood P) (eqb (length_field s) (length (payload s) + 2))
          (each (ltb-false (length s) 6 e) (carried identifiers (word s 3))) tt)) tt

  pub frame_covered : (k : Packet) → read_frame s ≡ good k → Covered k
  frame_covered = of_frame Covered payload-whole

  -- A frame that carries an event: nothing before the start byte, the length and the identifier; the first two bytes of the line; a colon before the
  -- first field and a comma before each other one; what stands between the last field, which ends before the line's CR LF, and the last byte; and
  -- nothing after that
  abbrev pub EventPassed : Event → Type 0
  EventPassed e =
      (d : ℕ)
      × (d + 3 ≤ length s)
      × (passed_over (cut (slots_of true (packet_shape (at_packet e))) s)
      ≡ [] ∷ [] ∷ [] ∷ take 2 (drop 5 s) ∷ marks_before 58 (length (event_values e)) ++ take (length s - 1 - d) (drop d s) ∷ [] ∷ [])

  abbrev IfEvent : Packet → Type 0
  IfEvent (connect_event vs) = Unit {0}
  IfEvent (disconnect_event vs) = Unit {0}
  IfEvent (data_packet vs) = Unit {0}
  IfEvent (data_command vs) = Unit {0}
  IfEvent (at_request v) = Unit {0}
  IfEvent (at_response r) = Unit {0}
  IfEvent (at_packet e) = EventPassed e
  IfEvent resend_packet = Unit {0}
  IfEvent start_packet = Unit {0}

  event-passed : 6 ≤ length s → IfGood IfEvent (of_event (read_line w26 5 (payload s)))
  unfolding read_line
  event-passed six = told (read_framed w26 (framed 5 (payload s))) (event-walk s six)
    where
      told : (o : OrRefused Event) → IfGood (LineWalk s 3 5) o → IfGood IfEvent (of_event (up_to (5 + length (payload s)) o))
      told (good (event r vs)) w =
          let f = walk-passed s 3 (end_slot ∷ []) 5 r vs w in
          (f.0, f.1, front_passed (event_shape 3 (event r vs)) six ∙ rw (f.2, end-passed f.0 (omega (arith, f.1))))
      told (refused n) w = tt

  event-payload : 6 ≤ length s → (c : Carries) → IfGood IfEvent (read_payload c 5 (payload s))
  unfolding read_connect read_disconnect read_data_event read_request
  event-payload six connect =
      let t = payload s in
      either (IfGood IfEvent) (ltb (length t) 2) tt (either (IfGood IfEvent) (eqb (byte t 1) 2) (either (IfGood IfEvent) (eqb (length t) 15) tt tt) tt)
  event-payload six disconnect = either (IfGood IfEvent) (eqb (length (payload s)) 1) tt tt
  event-payload six data_event = either (IfGood IfEvent) (ltb (length (payload s)) 1) tt tt
  event-payload six request = either (IfGood IfEvent) (utf8 (payload s)) tt tt
  event-payload six response = go (read_response 5 (payload s))
    where
      go : (o : OrRefused Response) → IfGood IfEvent (of_response o)
      go (good r) = tt
      go (refused n) = tt
  event-payload six at_event = event-passed six
  event-payload six resend = tt
  event-payload six start = tt
  event-payload six unknown = tt

  pub event-frame-passed : (e : Event) → read_frame s ≡ good (at_packet e) → EventPassed e
  event-frame-passed e = of_frame IfEvent event-payload (at_packet e)
