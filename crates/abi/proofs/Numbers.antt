-- Every number with which a read refuses lies from 1 to 16: followed through the definitions of the layers below. Assumes nothing.
use Prim.Native.Nat.{ℕ, suc, ◌+◌, ◌-◌, ◌≤◌}
use mathlib.Core.Path.{◌≡◌, refl}
use mathlib.Core.List.{List, [], ◌∷◌}
use mathlib.Core.Bool.{Bool, true, ◌||◌}
use lib.Dec.{eqb, leb, ltb}
use lib.ListN.{length, take, drop}
use borrow.Author.Tests.{leb-true}
use Rattle.text.specs.Bytes.{bytes, same, starts_with}
use Rattle.text.specs.Find.{crlf, first_of}
use Rattle.text.specs.Number.{Num, some, none, number}
use Rattle.text.specs.Field.{Field, field}
use Rattle.text.specs.Utf8.{utf8, inside_character}
use Rattle.text.proofs.Bools.{either}
use Rattle.at.specs.Refusal.{Refusal, number_of, OrRefused, good, refused}
use Rattle.at.specs.Event.{Kind, bits, text, ip_type, bt_type, protocol, reason, Row, kinds_of, Value, Event, ReadEvent, event_to, up_to, listed, is_protocol, is_reason, read_field, Taken, took, and_rest, take_kind, Read, values, prepend, and_then, take_kinds, with_values, read_row}
use Rattle.at.specs.Line.{before, ends_in, Radio, Body, body, ended, framed, rows_named, fields_after, or_next, by_type, by_name, read_text, read_framed, read_line}
use Rattle.at.specs.Binary.{read_fields, marker, find_marker, announced, Data, data_at, read_data, with_data, read_marked, read_body, Tried, not_binary, tried, prefix, try_rows}
use Rattle.at.specs.Response.{read_rest, read_response}
use Rattle.at.specs.W26.{w26}
use Rattle.edm.specs.Packet.{Carries, connect, disconnect, data_event, request, response, at_event, resend, start, unknown, identifiers, carried}
use Rattle.edm.specs.Payload.{byte, word, read_connect, read_disconnect, read_data_event, read_request, of_response, of_event, read_payload}
use Rattle.edm.specs.Frame.{delimited, length_field, payload, read_frame}

pub record Known (n : ℕ) : Type 0 where
  pub least : 1 ≤ n
  pub most : n ≤ 16

pub known : (n : ℕ) → leb 1 n ≡ true → leb n 16 ≡ true → Known n
known n a b = record { least = leb-true 1 n a; most = leb-true n 16 b }

-- of any answer: where it is refused, its number is known
abbrev pub Ok : {A : Type 0} → OrRefused A → Type 0
Ok (good a) = Unit {0}
Ok (refused n) = Known (number_of n)

-- what hands a refusal on hands its number on
handed_on : {A B : Type 0} (f : OrRefused A → OrRefused B) → ((a : A) → Ok (f (good a))) → ((n : Refusal) → f (refused n) ≡ refused n) → (o : OrRefused A) → Ok o → Ok (f o)
handed_on f g r (good a) h = g a
handed_on f g r (refused n) h = rw (r n) h

-- the fields of an event
listed_ok : (i : ℕ) (f : ℕ → Bool) (m : Num) → Ok (listed i f m)
listed_ok i f (some n) = either Ok (f n) tt (known 15 refl refl)
listed_ok i f (none why) = known 15 refl refl

field_ok : (i : ℕ) (k : Kind) (p : ℕ) (b : List ℕ) → Ok (read_field i k p b)
unfolding read_field
field_ok i (bits w) p b = listed_ok i (λ n. true) (number w b)
field_ok i text p b = tt
field_ok i ip_type p b = either Ok (same b (bytes "2")) tt (either Ok (same b (bytes "3")) tt (known 13 refl refl))
field_ok i bt_type p b = either Ok (same b (bytes "1")) tt (known 13 refl refl)
field_ok i protocol p b = listed_ok i is_protocol (number 8 b)
field_ok i reason p b = listed_ok i is_reason (number 8 b)

kind_ok : (i : ℕ) (k : Kind) (fs : List Field) → Ok (take_kind i k fs)
unfolding take_kind
kind_ok i k [] = known 14 refl refl
kind_ok i k (field p b ∷ fs) = handed_on (λ v. and_rest v fs) (λ v. tt) (λ n. refl) (read_field i k p b) (field_ok i k p b)

prepend_ok : (v : Value) (r : OrRefused Read) → Ok r → Ok (prepend v r)
prepend_ok v (good (values vs fs)) h = tt
prepend_ok v (refused n) h = h

then_ok : (t : OrRefused Taken) (more : List Field → OrRefused Read) → Ok t → ((fs : List Field) → Ok (more fs)) → Ok (and_then t more)
then_ok (good (took v fs)) more h k = prepend_ok v (more fs) (k fs)
then_ok (refused n) more h k = h

kinds_ok : (i : ℕ) (ks : List Kind) (fs : List Field) → Ok (take_kinds i ks fs)
unfolding take_kinds
kinds_ok i [] fs = tt
kinds_ok i (k ∷ ks) fs = then_ok (take_kind i k fs) (λ rest. take_kinds (suc i) ks rest) (kind_ok i k fs) (λ rest. kinds_ok (suc i) ks rest)

-- an event line
row_ok : (r : Row) (fs : List Field) → Ok (read_row r fs)
unfolding read_row
row_ok r fs = go (take_kinds 1 (kinds_of r) fs) (kinds_ok 1 (kinds_of r) fs)
  where
    go : (v : OrRefused Read) → Ok v → Ok (with_values r v)
    go (good (values vs rest)) h = tt
    go (refused n) h = h

by_type_ok : (rows : List Row) (fs : List Field) → Ok (by_type rows fs)
unfolding by_type
by_type_ok [] fs = known 13 refl refl
by_type_ok (r ∷ rows) fs = go (read_row r fs) (row_ok r fs) (by_type_ok rows fs)
  where
    go : (o : OrRefused Event) → Ok o → Ok (by_type rows fs) → Ok (or_next o (by_type rows fs))
    go (good e) h k = tt
    go (refused n) h k = either Ok (eqb (number_of n) 13) k h

by_name_ok : (rows : List Row) (fs : List Field) → Ok (by_name rows fs)
by_name_ok [] fs = known 16 refl refl
by_name_ok (r ∷ rows) fs = by_type_ok (r ∷ rows) fs

framed_ok : (p : ℕ) (s : List ℕ) → Ok (framed p s)
unfolding framed ended
framed_ok p s =
    let last = either Ok (ends_in (drop 2 s) crlf) tt (known 12 refl refl) in
    either Ok (utf8 s) (either Ok (ltb (length s) 2 || inside_character s 2) (known 12 refl refl) last) (known 11 refl refl)

read_ok : (radio : Radio) (f : OrRefused Body) → Ok f → Ok (read_framed radio f)
unfolding read_text
read_ok radio (good (body p t)) h = by_name_ok (rows_named radio.rows (before (bytes ":") (radio.kept t))) (fields_after p (radio.kept t))
read_ok radio (refused n) h = h

pub line_ok : (radio : Radio) (p : ℕ) (s : List ℕ) → Ok (read_line radio p s)
unfolding read_line
line_ok radio p s =
    handed_on (up_to (p + radio.spans s)) (λ e. tt) (λ n. refl) (read_framed radio (framed p s)) (read_ok radio (framed p s) (framed_ok p s))

-- a binary event
marker_ok : (t : List ℕ) → Ok (find_marker t)
unfolding find_marker
marker_ok t = either Ok (ltb (first_of marker t) (length t)) (either Ok (utf8 (take (first_of marker t) t)) tt (known 11 refl refl)) (known 12 refl refl)

data_ok : (p : ℕ) (t : List ℕ) → Ok (read_data p t)
unfolding read_data
data_ok p t = either Ok (leb 2 (length t)) (either Ok (leb (announced t) (length t - 2)) tt (known 12 refl refl)) (known 12 refl refl)

with_data_ok : (r : Row) (v : OrRefused Read) (d : OrRefused Data) → Ok v → Ok d → Ok (with_data r v d)
with_data_ok r (good (values vs fs)) (good (data_at p n)) h k = tt
with_data_ok r (good (values vs fs)) (refused n) h k = k
with_data_ok r (refused n) d h k = h

marked_ok : (r : Row) (p : ℕ) (t : List ℕ) (m : OrRefused ℕ) → Ok m → Ok (read_marked r p t m)
unfolding read_fields
marked_ok r p t (good k) h =
    with_data_ok r (read_fields r p (take k t)) (read_data (p + k + 1) (drop (k + 1) t)) (kinds_ok 1 (kinds_of r) _) (data_ok (p + k + 1) (drop (k + 1) t))
marked_ok r p t (refused n) h = h

abbrev pub Tried_ok : Tried → Type 0
Tried_ok not_binary = Unit {0}
Tried_ok (tried a) = Ok a

pub binary_ok : (rows : List Row) (p : ℕ) (s : List ℕ) → Tried_ok (try_rows rows p s)
unfolding try_rows read_body
binary_ok [] p s = tt
binary_ok (r ∷ rs) p s =
    let t = drop (length (prefix r)) s in
    either Tried_ok (starts_with s (prefix r)) (marked_ok r (p + length (prefix r)) t (find_marker t) (marker_ok t)) (binary_ok rs p s)

-- a response
pub response_ok : (p : ℕ) (s : List ℕ) → Ok (read_response p s)
unfolding read_response read_rest
response_ok p s =
    let i = first_of crlf s in
    let last = either Ok (ends_in (drop (i + 2) s) crlf) tt (known 12 refl refl) in
    either Ok (utf8 s) (either Ok (ltb i (length s)) last (known 12 refl refl)) (known 11 refl refl)

-- a frame
of_event_ok : (a : OrRefused ReadEvent) → Ok a → Ok (of_event a)
of_event_ok (good (event_to e past)) h = tt
of_event_ok (refused n) h = h

payload_ok : (k : Carries) (p : ℕ) (t : List ℕ) → Ok (read_payload k p t)
unfolding read_connect read_disconnect read_data_event read_request
payload_ok connect p t =
    either Ok (ltb (length t) 2) (known 2 refl refl) (either Ok (eqb (byte t 1) 2) (either Ok (eqb (length t) 15) tt (known 6 refl refl)) (known 5 refl refl))
payload_ok disconnect p t = either Ok (eqb (length t) 1) tt (known 7 refl refl)
payload_ok data_event p t = either Ok (ltb (length t) 1) (known 2 refl refl) tt
payload_ok request p t = either Ok (utf8 t) tt (known 8 refl refl)
payload_ok response p t = handed_on of_response (λ r. tt) (λ n. refl) (read_response p t) (response_ok p t)
payload_ok at_event p t = of_event_ok (read_line w26 p t) (line_ok w26 p t)
payload_ok resend p t = tt
payload_ok start p t = tt
payload_ok unknown p t = known 4 refl refl

pub frame_ok : (s : List ℕ) → Ok (read_frame s)
unfolding read_frame
frame_ok s =
    let held = payload_ok (carried identifiers (word s 3)) 5 (payload s) in
    let sized = either Ok (eqb (length_field s) (length (payload s) + 2)) held (known 3 refl refl) in
    either Ok (delimited s) (either Ok (ltb (length s) 6) (known 2 refl refl) sized) (known 1 refl refl)
