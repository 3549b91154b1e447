-- No two answers have the same row. Of arbitrary answers that is not so, since two numbers look like a place; it is of those that the readers give: their
-- values are of the kinds of their rows, their refusals have numbers from 1 to 16 and fields from 1 to 7. Each row is turned back into the answer that it
-- was made of. Assumes nothing.
use Prim.Native.Nat.{ℕ, zero, suc, ◌+◌, ◌<◌}
use mathlib.Core.Path.{◌≡◌, refl, sym, ap, ◌∙◌}
use mathlib.Core.List.{List, [], ◌∷◌, ◌++◌, map, append-nil}
use mathlib.Core.Logic.{inl, inr}
use mathlib.Core.Bool.{Bool, true, false, cond}
use native.Mathlib.Omega.{arith}
use borrow.Author.Tests.{lt-ltb, le-ltb, ne_eqb}
use lib.Dec.{eqb}
use lib.ListN.{length, drop}
use Rattle.at.specs.Refusal.{Refusal, no, missing, invalid, number_of, OrRefused, good, refused}
use Rattle.at.specs.Event.{Kind, bits, text, ip_type, bt_type, protocol, reason, Row, row, kinds_of, Value, num, place, Event, event, ReadEvent, event_to}
use Rattle.at.specs.Parts.{row_no}
use Rattle.at.specs.Line.{read_line}
use Rattle.at.specs.Binary.{Tried, not_binary, tried, try_rows}
use Rattle.at.specs.Response.{Response, ok, error, other, read_response}
use Rattle.at.specs.Walk.{Step, one, end, refused_at, step_at}
use Rattle.at.specs.W26 as w26
use Rattle.at.specs.W36 as w36
use Rattle.at.specs.Inside.{IfGood}
use Rattle.at.specs.Typed.{OfKind, OfKinds, OfKindsThenData, TextOf, BinaryOf, ReadTextOf, ReadBinaryOf, TriedTyped, ResponseTyped, StepTyped}
use Rattle.at.specs.Why.{UpToSeven, FieldUpToSeven, TriedUpToSeven}
use Rattle.at.specs.declared.FieldError.{FieldError}
use Rattle.at.specs.declared.FieldError.TheVariants.{NoNumber, NotListed}
use Rattle.text.specs.declared.number.NumberError.TheVariants.{Empty, Byte, Large}
use Rattle.at.proofs.PartsLaws.{firsts, row_number}
use Rattle.at.proofs.TableTests.{roomy-w26, roomy-w36, roomy-binary, firsts_w26, firsts_w36}
use Rattle.at.proofs.TypedLaws.{trims_26, trims_36, line_typed, rows-typed, response-typed, step_typed}
use Rattle.at.proofs.WhyLaws.{line_seven, binary-seven, response-plain, nothing-seven}
use Rattle.edm.specs.Packet.{Packet, connect_event, disconnect_event, data_packet, data_command, at_request, at_response, at_packet, resend_packet, start_packet}
use Rattle.edm.specs.Frame.{read_frame}
use Rattle.edm.specs.Typed.{Part, LaidOut, connect_layout, data_layout, PacketTyped}
use Rattle.edm.specs.Typed as layout
use Rattle.edm.proofs.TypedLaws.{frame-typed}
use Rattle.edm.proofs.WhyPrograms.{frame-seven}
use Rattle.abi.specs.Code.{reason_of}
use Rattle.abi.specs.Row.{values_numbers, event_numbers, read_numbers, response_numbers, packet_numbers, refusal_numbers, encode, encode_tried, encode_step}
use Rattle.abi.specs.Given.{number, value_kinds}
use Rattle.abi.proofs.Numbers.{Ok, Tried_ok, line_ok, binary_ok, response_ok, frame_ok}
use Rattle.abi.proofs.ReadLaws.{StepKnown, step_known}

-- Values: which of them are places decides how their numbers are taken apart

abbrev is_place : Value → Bool
is_place (num n) = false
is_place (place p n) = true

abbrev is_text : Kind → Bool
is_text (bits w) = false
is_text text = true
is_text ip_type = false
is_text bt_type = false
is_text protocol = false
is_text reason = false

abbrev values_in : List Bool → List ℕ → List Value
values_in [] ns = []
values_in (true ∷ bs) ns = place (number ns 0) (number ns 1) ∷ values_in bs (drop 2 ns)
values_in (false ∷ bs) ns = num (number ns 0) ∷ values_in bs (drop 1 ns)

values_back : (vs : List Value) (xs : List ℕ) → values_in (map is_place vs) (values_numbers vs ++ xs) ≡ vs
unfolding values_numbers
values_back [] xs = refl
values_back (num n ∷ vs) xs = ap (λ (us : List Value). num n ∷ us) (values_back vs xs)
values_back (place p n ∷ vs) xs = ap (λ (us : List Value). place p n ∷ us) (values_back vs xs)

-- the values that fit kinds, or a layout, have their places where these have their texts
module _ (s : List ℕ) where
  kind_shaped : (k : Kind) (v : Value) → OfKind s k v → is_place v ≡ is_text k
  kind_shaped (bits w) (num n) h = refl
  kind_shaped (bits w) (place p n) h = absurd h
  kind_shaped text (num n) h = absurd h
  kind_shaped text (place p n) h = refl
  kind_shaped ip_type (num n) h = refl
  kind_shaped ip_type (place p n) h = absurd h
  kind_shaped bt_type (num n) h = refl
  kind_shaped bt_type (place p n) h = absurd h
  kind_shaped protocol (num n) h = refl
  kind_shaped protocol (place p n) h = absurd h
  kind_shaped reason (num n) h = refl
  kind_shaped reason (place p n) h = absurd h

  kinds_shaped : (ks : List Kind) (vs : List Value) → OfKinds s ks vs → map is_place vs ≡ map is_text ks
  kinds_shaped [] [] h = refl
  kinds_shaped [] (v ∷ vs) h = absurd h
  kinds_shaped (k ∷ ks) [] h = absurd h
  kinds_shaped (k ∷ ks) (v ∷ vs) h = rw (kind_shaped k v h.0, kinds_shaped ks vs h.1)

  data_shaped : (ks : List Kind) (vs : List Value) → OfKindsThenData s ks vs → map is_place vs ≡ map is_text (ks ++ text ∷ [])
  data_shaped [] [] h = absurd h
  data_shaped [] (num n ∷ vs) h = absurd h
  data_shaped [] (place p n ∷ []) h = refl
  data_shaped [] (place p n ∷ v ∷ vs) h = absurd h
  data_shaped (k ∷ ks) [] h = absurd h
  data_shaped (k ∷ ks) (v ∷ vs) h = rw (kind_shaped k v h.0, data_shaped ks vs h.1)

abbrev is_bytes : Part → Bool
is_bytes layout.number = false
is_bytes layout.bytes = true

laid_shaped : (ks : List Part) (vs : List Value) → LaidOut ks vs → map is_place vs ≡ map is_bytes ks
laid_shaped [] [] h = refl
laid_shaped [] (v ∷ vs) h = absurd h
laid_shaped (layout.number ∷ ks) [] h = absurd h
laid_shaped (layout.number ∷ ks) (num n ∷ vs) h = rw (laid_shaped ks vs h)
laid_shaped (layout.number ∷ ks) (place p n ∷ vs) h = absurd h
laid_shaped (layout.bytes ∷ ks) [] h = absurd h
laid_shaped (layout.bytes ∷ ks) (num n ∷ vs) h = absurd h
laid_shaped (layout.bytes ∷ ks) (place p n ∷ vs) h = rw (laid_shaped ks vs h)

laid_back : (ks : List Part) (vs : List Value) → LaidOut ks vs → values_in (map is_bytes ks) (values_numbers vs) ≡ vs
laid_back ks vs h = rw (← laid_shaped ks vs h) (rw (append-nil (values_numbers vs)) at (values_back vs []))

-- Events, by a table and the kinds of the values of its rows

-- the place just past an event stands last
abbrev last_of : List ℕ → ℕ
last_of [] = 0
last_of (n ∷ []) = n
last_of (n ∷ m ∷ ns) = last_of (m ∷ ns)

last_back : (xs : List ℕ) (p : ℕ) → last_of (xs ++ p ∷ []) ≡ p
last_back [] p = refl
last_back (x ∷ []) p = refl
last_back (x ∷ y ∷ xs) p = last_back (y ∷ xs) p

module _ (kinds : ℕ → Row → List Kind) (rows : List Row) where
  abbrev EventShaped : Event → Type 0
  EventShaped (event r vs) = (i : ℕ) × (row_no rows i ≡ good r) × (map is_place vs ≡ map is_text (kinds i r))

  -- a number that no row has is never handed out; any event will do for it
  abbrev event_by : ℕ → OrRefused Row → List ℕ → Event
  event_by i (good r) ns = event r (values_in (map is_text (kinds i r)) ns)
  event_by i (refused n) ns = event (row "" []) []

  abbrev event_from : List ℕ → Event
  event_from ns = event_by (number ns 0) (row_no rows (number ns 0)) (drop 1 ns)

  abbrev read_from : List ℕ → ReadEvent
  read_from ns = event_to (event_from ns) (last_of ns)

  module _ (t : firsts rows 0 rows ≡ true) where
    event_back : (e : Event) (xs : List ℕ) → EventShaped e → event_from (event_numbers rows e ++ xs) ≡ e
    event_back (event r vs) xs (i, l, h) = rw (row_number rows t i r l, l, ← h, values_back vs xs)

    event-whole : (e : Event) → EventShaped e → event_from (event_numbers rows e) ≡ e
    event-whole e h = rw (append-nil (event_numbers rows e)) at (event_back e [] h)

    read_back : (e : Event) (past : ℕ) → EventShaped e → read_from (read_numbers rows (event_to e past)) ≡ event_to e past
    read_back e past h = rw (event_back e (past ∷ []) h, last_back (event_numbers rows e) past)

-- W26's table; and W36's two, one after the other: its text events have their fields as values, its binary ones the data too
abbrev kinds26 : ℕ → Row → List Kind
kinds26 i r = kinds_of r

abbrev kinds36 : ℕ → Row → List Kind
kinds36 i r = value_kinds (length w36.table) i r

shaped_26 : (s : List ℕ) (e : Event) → TextOf w26.table s e → EventShaped kinds26 w26.table e
shaped_26 s (event r vs) ((i, l), h) = (i, l, kinds_shaped s (kinds_of r) vs h)

-- a row of the first table, and one of the second
pub front_row : (rows more : List Row) (i : ℕ) (r : Row) → row_no rows i ≡ good r → (row_no (rows ++ more) i ≡ good r) × (i < length rows)
unfolding row_no
front_row [] more i r e = let z : ◌≡◌ {A = ℕ} 0 1 = cc in absurd (omega arith)
front_row (q ∷ rs) more zero r e = (e, omega arith)
front_row (q ∷ rs) more (suc i) r e = let h = front_row rs more i r e in (h.0, omega (arith, h.1))

pub back_row : (rows more : List Row) (i : ℕ) (r : Row) → row_no more i ≡ good r → row_no (rows ++ more) (length rows + i) ≡ good r
unfolding row_no
back_row [] more i r e = let z : 0 + i ≡ i = omega arith in rw z e
back_row (q ∷ rs) more i r e = let z : suc (length rs) + i ≡ suc (length rs + i) = omega arith in rw z (back_row rs more i r e)

shaped_36 : (s : List ℕ) (e : Event) → TextOf w36.table s e → EventShaped kinds36 w36.rows36 e
unfolding w36.rows36
shaped_36 s (event r vs) ((i, l), h) =
    let f = front_row w36.table w36.binary_table i r l in
    (i, f.0, rw (lt-ltb i (length w36.table) f.1) (kinds_shaped s (kinds_of r) vs h))

shaped_binary : (s : List ℕ) (e : Event) → BinaryOf w36.binary_table s e → EventShaped kinds36 w36.rows36 e
unfolding w36.rows36
shaped_binary s (event r vs) ((i, l), h) =
    let n = length w36.table in
    (n + i, back_row w36.table w36.binary_table i r l, rw (le-ltb (n + i) n (omega arith)) (data_shaped s (kinds_of r) vs h))

-- Refusals

abbrev why_from : ℕ → FieldError
why_from n = cond (eqb n 1) (NoNumber Empty) (cond (eqb n 2) (NoNumber Byte) (cond (eqb n 3) (NoNumber Large) NotListed))

why_back : (w : FieldError) → why_from (reason_of w) ≡ w
why_back (NoNumber Empty) = refl
why_back (NoNumber Byte) = refl
why_back (NoNumber Large) = refl
why_back NotListed = refl

abbrev refusal_from : List ℕ → Refusal
refusal_from ns =
    cond (eqb (number ns 1) 0) (no (number ns 0))
    (cond (eqb (number ns 0) 14) (missing (number ns 1)) (invalid (number ns 1) (why_from (number ns 2))))

refusal_back : (n : Refusal) (xs : List ℕ) → UpToSeven n → refusal_from (refusal_numbers n ++ xs) ≡ n
refusal_back (no n) xs h = refl
refusal_back (missing i) xs h = rw (ne_eqb i 0 (λ e. omega (arith, h.0)))
refusal_back (invalid i w) xs h = rw (ne_eqb i 0 (λ e. omega (arith, h.0)), why_back w)

-- Answers: of a reader whose good answers are turned back

abbrev answer_from : {A : Type 0} → (List ℕ → A) → List ℕ → OrRefused A
answer_from back ns = cond (eqb (number ns 0) 0) (good (back (drop 1 ns))) (refused (refusal_from ns))

module _ {A : Type 0} (numbers : A → List ℕ) (back : List ℕ → A) (P : List ℕ → A → Type 0) (backs : (s : List ℕ) (a : A) → P s a → back (numbers a) ≡ a)
    (read : List ℕ → OrRefused A) (typed : (s : List ℕ) → IfGood (P s) (read s)) (known : (s : List ℕ) → Ok (read s))
    (seven : (s : List ℕ) → FieldUpToSeven (read s))
  where
    answer_back : (s : List ℕ) → answer_from back (encode numbers (read s)) ≡ read s
    answer_back s = go (read s) (typed s) (known s) (seven s)
      where
        go : (o : OrRefused A) → IfGood (P s) o → Ok o → FieldUpToSeven o → answer_from back (encode numbers o) ≡ o
        go (good a) h k u = rw (backs s a h)
        go (refused n) h k u = rw (ne_eqb (number_of n) 0 (λ e. omega (arith, k.least)), refusal_back n [] u)

    read_injective : (s t : List ℕ) → encode numbers (read s) ≡ encode numbers (read t) → read s ≡ read t
    read_injective s t e = sym (answer_back s) ∙ ap (answer_from back) e ∙ answer_back t

-- No two answers have the same row

-- a line
back_26 : (s : List ℕ) (e : ReadEvent) → ReadTextOf w26.table s e → read_from kinds26 w26.table (read_numbers w26.table e) ≡ e
back_26 s (event_to e past) h = read_back kinds26 w26.table firsts_w26 e past (shaped_26 s e h)

pub w26_injective : (s t : List ℕ) → encode (read_numbers w26.table) (read_line w26.w26 0 s) ≡ encode (read_numbers w26.table) (read_line w26.w26 0 t)
    → read_line w26.w26 0 s ≡ read_line w26.w26 0 t
w26_injective =
    read_injective (read_numbers w26.table) (read_from kinds26 w26.table) (ReadTextOf w26.table) back_26 (read_line w26.w26 0) (λ s. line_typed s 0 w26.w26 trims_26)
    (line_ok w26.w26 0) (λ s. line_seven w26.w26 0 s roomy-w26.0)

back_36 : (s : List ℕ) (e : ReadEvent) → ReadTextOf w36.table s e → read_from kinds36 w36.rows36 (read_numbers w36.rows36 e) ≡ e
back_36 s (event_to e past) h = read_back kinds36 w36.rows36 firsts_w36 e past (shaped_36 s e h)

pub w36_injective : (s t : List ℕ) → encode (read_numbers w36.rows36) (read_line w36.w36 0 s) ≡ encode (read_numbers w36.rows36) (read_line w36.w36 0 t)
    → read_line w36.w36 0 s ≡ read_line w36.w36 0 t
w36_injective =
    read_injective (read_numbers w36.rows36) (read_from kinds36 w36.rows36) (ReadTextOf w36.table) back_36 (read_line w36.w36 0) (λ s. line_typed s 0 w36.w36 trims_36)
    (line_ok w36.w36 0) (λ s. line_seven w36.w36 0 s roomy-w36.0)

-- a binary event
back_binary : (s : List ℕ) (e : ReadEvent) → ReadBinaryOf w36.binary_table s e → read_from kinds36 w36.rows36 (read_numbers w36.rows36 e) ≡ e
back_binary s (event_to e past) h = read_back kinds36 w36.rows36 firsts_w36 e past (shaped_binary s e h)

abbrev tried_from : List ℕ → Tried
tried_from ns = cond (eqb (number ns 0) 255) not_binary (tried (answer_from (read_from kinds36 w36.rows36) ns))

tried_back : (s : List ℕ) → tried_from (encode_tried (try_rows w36.binary_table 0 s)) ≡ try_rows w36.binary_table 0 s
tried_back s = go (try_rows w36.binary_table 0 s) (rows-typed s 0 w36.binary_table) (binary_ok w36.binary_table 0 s) (binary-seven w36.binary_table 0 s roomy-binary)
  where
    go : (t : Tried) → TriedTyped w36.binary_table s t → Tried_ok t → TriedUpToSeven t → tried_from (encode_tried t) ≡ t
    go not_binary h k u = refl
    go (tried (good e)) h k u = rw (back_binary s e h)
    go (tried (refused n)) h k u =
        rw (ne_eqb (number_of n) 255 (λ e. omega (arith, k.most)), ne_eqb (number_of n) 0 (λ e. omega (arith, k.least)), refusal_back n [] u)

pub binary_injective : (s t : List ℕ) → encode_tried (try_rows w36.binary_table 0 s) ≡ encode_tried (try_rows w36.binary_table 0 t)
    → try_rows w36.binary_table 0 s ≡ try_rows w36.binary_table 0 t
binary_injective s t e = sym (tried_back s) ∙ ap tried_from e ∙ tried_back t

-- a step of the walk, at any place
abbrev one_from : ReadEvent → Step
one_from (event_to e past) = one e past

abbrev step_from : List ℕ → Step
step_from ns =
    cond (eqb (number ns 0) 252) end
    (cond (eqb (number ns 0) 0) (one_from (read_from kinds36 w36.rows36 (drop 1 ns))) (refused_at (refusal_from ns) (number ns 3)))

step_back : (s : List ℕ) (p : ℕ) → step_from (encode_step (step_at s p)) ≡ step_at s p
step_back s p = go (step_at s p) (step_typed s p) (step_known s p)
  where
    go : (t : Step) → StepTyped s t → StepKnown t → step_from (encode_step t) ≡ t
    go (one e past) (inl h) k = ap one_from (back_36 s (event_to e past) h)
    go (one e past) (inr h) k = ap one_from (back_binary s (event_to e past) h)
    go end h k = refl
    go (refused_at n q) h k =
        rw (ne_eqb (number_of n) 252 (λ e. omega (arith, k.0.most)), ne_eqb (number_of n) 0 (λ e. omega (arith, k.0.least)), refusal_back n (q ∷ []) k.1)

pub step_injective : (s t : List ℕ) (p q : ℕ) → encode_step (step_at s p) ≡ encode_step (step_at t q) → step_at s p ≡ step_at t q
step_injective s t p q e = sym (step_back s p) ∙ ap step_from e ∙ step_back t q

-- a response
abbrev response_from : List ℕ → Response
response_from ns = cond (eqb (number ns 0) 0) (ok (number ns 1) (number ns 2)) (cond (eqb (number ns 0) 1) error (other (number ns 1) (number ns 2)))

response_back : (r : Response) → response_from (response_numbers r) ≡ r
response_back (ok p n) = refl
response_back error = refl
response_back (other p n) = refl

pub response_injective : (s t : List ℕ) → encode response_numbers (read_response 0 s) ≡ encode response_numbers (read_response 0 t)
    → read_response 0 s ≡ read_response 0 t
response_injective =
    read_injective response_numbers response_from ResponseTyped (λ s r h. response_back r) (read_response 0) (λ s. response-typed s 0) (response_ok 0)
    (λ s. nothing-seven (read_response 0 s) (response-plain 0 s))

-- a frame
abbrev packet_by : ℕ → List ℕ → Packet
packet_by id ns =
    cond (eqb id 0x11) (connect_event (values_in (map is_bytes connect_layout) ns))
    (cond (eqb id 0x21) (disconnect_event (values_in (map is_bytes (layout.number ∷ [])) ns))
    (cond (eqb id 0x31) (data_packet (values_in (map is_bytes data_layout) ns))
    (cond (eqb id 0x36) (data_command (values_in (map is_bytes data_layout) ns))
    (cond (eqb id 0x44) (at_request (place (number ns 0) (number ns 1)))
    (cond (eqb id 0x45) (at_response (response_from ns))
    (cond (eqb id 0x41) (at_packet (event_from kinds26 w26.table ns)) (cond (eqb id 0x56) resend_packet start_packet)))))))

abbrev packet_from : List ℕ → Packet
packet_from ns = packet_by (number ns 0) (drop 1 ns)

packet_back : (s : List ℕ) (p : Packet) → PacketTyped s p → packet_from (packet_numbers p) ≡ p
packet_back s (connect_event vs) h = ap connect_event (laid_back connect_layout vs h)
packet_back s (disconnect_event vs) h = ap disconnect_event (laid_back (layout.number ∷ []) vs h)
packet_back s (data_packet vs) h = ap data_packet (laid_back data_layout vs h)
packet_back s (data_command vs) h = ap data_command (laid_back data_layout vs h)
packet_back s (at_request (num n)) h = absurd h
packet_back s (at_request (place p n)) h = refl
packet_back s (at_response r) h = ap at_response (response_back r)
packet_back s (at_packet e) h = ap at_packet (event-whole kinds26 w26.table firsts_w26 e (shaped_26 s e h))
packet_back s resend_packet h = refl
packet_back s start_packet h = refl

pub frame_injective : (s t : List ℕ) → encode packet_numbers (read_frame s) ≡ encode packet_numbers (read_frame t) → read_frame s ≡ read_frame t
frame_injective = read_injective packet_numbers packet_from PacketTyped packet_back read_frame frame-typed frame_ok frame-seven
