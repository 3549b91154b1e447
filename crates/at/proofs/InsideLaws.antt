-- Laws of places inside a slice of n bytes. A text at the place p that ends at or before n, whatever it is a part of, has its fields there too, and so
-- the values that are read from them: n is any limit, so a caller may take the length of the whole slice or the end of the text.
use Prim.Native.Nat.{ℕ, zero, suc, ◌+◌, ◌-◌, ◌≤◌, ◌<◌}
use mathlib.Core.Path.{◌≡◌, refl, ap}
use mathlib.Core.List.{List, [], ◌∷◌, ◌++◌}
use mathlib.Core.Bool.{Bool, true, false, cond}
use native.Mathlib.Omega.{arith}
use lib.Dec.{eqb, leb, ltb}
use lib.ListN.{length, take, drop, drop_of_length-le, length-take, length-drop}
use borrow.Author.Tests.{leb-true, leb-false, ltb-true}
use Rattle.text.specs.Bytes.{bytes, same, starts_with}
use Rattle.text.specs.Number.{Num, some, none, number}
use Rattle.text.specs.Find.{crlf, first_of, last_of}
use Rattle.text.specs.Utf8.{utf8}
use Rattle.text.specs.Field.{Field, field, grow, fields_from}
use Rattle.std.specs.Prelude.{Option, Some, None}
use Rattle.text.proofs.BytesLaws.{starts_length}
use Rattle.text.proofs.Utf8Joined.{utf8_nil}
use Rattle.text.proofs.Bools.{either}
use Rattle.at.specs.Refusal.{no, number_of, OrRefused, good, refused}
use Rattle.at.specs.Event.{Kind, bits, text, ip_type, bt_type, protocol, reason, Row, kinds_of, Value, num, place, Event, event, ReadEvent, event_to, up_to, listed, is_protocol, is_reason, read_field, Taken, took, and_rest, take_kind, Read, values, prepend, and_then, take_kinds, with_values, read_row}
use Rattle.at.specs.Line.{before, ends_in, Radio, Body, body, framed, rows_named, fields_after, or_next, by_type, by_name, read_text, read_framed, read_line}
use Rattle.at.specs.Binary.{fields_up_to, read_fields, find_marker, announced, Data, data_at, read_data, with_data, read_marked, read_body, Tried, not_binary, tried, prefix, try_rows}
use Rattle.at.specs.Response.{by_last, read_rest, read_response, read_body as read_response_body}
use Rattle.at.specs.W26.{w26}
use Rattle.at.specs.W36.{binary_table, w36}
use Rattle.at.specs.Walk.{or_text, read_either, end, step_from, step_at}
use Rattle.at.specs.Inside.{Inside, EachInside, EventInside, IfGood, AnswerInside, TriedInside, ResponseInside, StepInside}
use Rattle.at.proofs.EndLaws.{ends_long, framed-whole-only, first-inside}
use Rattle.at.proofs.BinaryLaws.{marked-inside}
use Rattle.at.proofs.ResponseLaws.{last_fits}

-- each field ends at or before n
abbrev pub FieldsInside : ℕ → List Field → Type 0
FieldsInside n [] = Unit {0}
FieldsInside n (field p b ∷ fs) = (p + length b ≤ n) × FieldsInside n fs

abbrev pub TakenInside : ℕ → Taken → Type 0
TakenInside n (took v fs) = Inside n v × FieldsInside n fs

abbrev pub ValuesInside : ℕ → Read → Type 0
ValuesInside n (values vs fs) = EachInside n vs × FieldsInside n fs

abbrev pub DataInside : ℕ → Data → Type 0
DataInside n (data_at p len) = p + len ≤ n

-- a radio that keeps no more than the text, and whose event ends in its line
pub record Stays (radio : Radio) : Type 0 where
  pub keeps : (t : List ℕ) → length (radio.kept t) ≤ length t
  pub ends : (p : ℕ) (line : List ℕ) (q : ℕ) (t : List ℕ) → framed p line ≡ good (body q t) → radio.spans line ≤ length line

pub stays_26 : Stays w26
stays_26 = record { keeps = λ t. omega arith; ends = λ p line q t e. omega arith }

pub stays_36 : Stays w36
unfolding before
stays_36 = record {
  keeps = λ t. omega (arith, length-take (first_of crlf t) t);
  ends = λ p line q t e. omega (arith, first-inside (drop 2 line) (framed-whole-only p line q t e).ends, length-drop 2 line);
}

module _ (n : ℕ) where
  pub each_append : (vs us : List Value) → EachInside n vs → EachInside n us → EachInside n (vs ++ us)
  each_append [] us i j = j
  each_append (v ∷ vs) us i j = (i.0, each_append vs us i.1 j)

  -- The fields of a text

  -- the first field starts at p, so that it may grow to the left
  abbrev StartsAt : ℕ → List Field → Type 0
  StartsAt p [] = Unit {0}
  StartsAt p (field q b ∷ fs) = q ≡ p

  abbrev Cut : ℕ → List Field → Type 0
  Cut p fs = StartsAt p fs × FieldsInside n fs

  grown : (p b : ℕ) (fs : List Field) → Cut (suc p) fs → Cut p (grow p b fs)
  grown p b [] i = (tt, tt)
  grown p b (field q f ∷ fs) i = (refl, (omega (arith, i.0, i.1.0), i.1.1))

  -- one byte: a comma with the fields after it, or a byte of the first field
  one_byte_lem : (p b : ℕ) (fs gs : List Field) (k : Bool) → p ≤ n → Cut (suc p) fs → Cut (suc p) gs → Cut p (cond k (field p [] ∷ fs) (grow p b gs))
  one_byte_lem p b fs gs true h i j = (refl, (omega arith, i.1))
  one_byte_lem p b fs gs false h i j = grown p b gs j

  cut_all : (p : ℕ) (t : List ℕ) → p + length t ≤ n → Cut p (fields_from p t)
  unfolding fields_from
  cut_all p [] h = (refl, (omega arith, tt))
  cut_all p (b ∷ t) h =
      let i = cut_all (suc p) t (omega arith) in
      one_byte_lem p b (fields_from (suc p) t) (fields_from (suc p) t) (eqb b 44) (omega arith) i i

  cut-some : (k p : ℕ) (t : List ℕ) → p + length t ≤ n → Cut p (fields_up_to k p t)
  unfolding fields_up_to
  cut-some zero p t h = (refl, (omega arith, tt))
  cut-some (suc k) p [] h = (refl, (omega arith, tt))
  cut-some (suc k) p (b ∷ t) h =
      one_byte_lem p b (fields_up_to k (suc p) t) (fields_up_to (suc k) (suc p) t) (eqb b 44) (omega arith) (cut-some k (suc p) t (omega arith)) (cut-some (suc k) (suc p) t (omega arith))

  pub fields-inside : (p : ℕ) (t : List ℕ) → p + length t ≤ n → FieldsInside n (fields_from p t)
  fields-inside p t h = (cut_all p t h).1

  pub up_to_inside : (k p : ℕ) (t : List ℕ) → p + length t ≤ n → FieldsInside n (fields_up_to k p t)
  up_to_inside k p t h = (cut-some k p t h).1

  pub after-inside : (p : ℕ) (t : List ℕ) → p + length t ≤ n → FieldsInside n (fields_after p t)
  unfolding fields_after
  after-inside p t h = go (first_of (bytes ":") t) (ltb (first_of (bytes ":") t) (length t)) refl
    where
      go : (i : ℕ) (k : Bool) → ltb i (length t) ≡ k → FieldsInside n (cond k (fields_from (p + i + 1) (drop (i + 1) t)) [])
      go i true k = fields-inside (p + i + 1) (drop (i + 1) t) (omega (arith, ltb-true i (length t) k, length-drop (i + 1) t))
      go i false k = tt

  -- The values of fields: a number, or the place and the length of its field

  listed-inside : (i : ℕ) (in_list : ℕ → Bool) (x : Num) → IfGood (Inside n) (listed i in_list x)
  listed-inside i in_list (some x) = either (IfGood (Inside n)) (in_list x) tt tt
  listed-inside i in_list (none why) = tt

  pub field-inside : (i : ℕ) (k : Kind) (p : ℕ) (b : List ℕ) → p + length b ≤ n → IfGood (Inside n) (read_field i k p b)
  unfolding read_field
  field-inside i (bits w) p b h = listed-inside i (λ x. true) (number w b)
  field-inside i text p b h = h
  field-inside i ip_type p b h =
      let three : OrRefused Value = cond (same b (bytes "3")) (good (num 3)) (refused (no 13)) in
      either (IfGood (Inside n)) (same b (bytes "2")) tt (either (IfGood (Inside n)) (same b (bytes "3")) tt tt)
  field-inside i bt_type p b h = either (IfGood (Inside n)) (same b (bytes "1")) tt tt
  field-inside i protocol p b h = listed-inside i is_protocol (number 8 b)
  field-inside i reason p b h = listed-inside i is_reason (number 8 b)

  pub kind-inside : (i : ℕ) (k : Kind) (fs : List Field) → FieldsInside n fs → IfGood (TakenInside n) (take_kind i k fs)
  unfolding take_kind
  kind-inside i k [] h = tt
  kind-inside i k (field p b ∷ fs) h = go (read_field i k p b) (field-inside i k p b h.0)
    where
      go : (v : OrRefused Value) → IfGood (Inside n) v → IfGood (TakenInside n) (and_rest v fs)
      go (good v) j = (j, h.1)
      go (refused m) j = tt

  pub kinds-inside : (i : ℕ) (ks : List Kind) (fs : List Field) → FieldsInside n fs → IfGood (ValuesInside n) (take_kinds i ks fs)
  unfolding take_kinds
  kinds-inside i [] fs h = (tt, h)
  kinds-inside i (k ∷ ks) fs h = go (take_kind i k fs) (kind-inside i k fs h) (kinds-inside (suc i) ks)
    where
      more : (v : Value) (o : OrRefused Read) → Inside n v → IfGood (ValuesInside n) o → IfGood (ValuesInside n) (prepend v o)
      more v (good (values vs rest)) i j = ((i, j.0), j.1)
      more v (refused m) i j = tt

      go : (t : OrRefused Taken) → IfGood (TakenInside n) t → ((rest : List Field) → FieldsInside n rest → IfGood (ValuesInside n) (take_kinds (suc i) ks rest))
          → IfGood (ValuesInside n) (and_then t (λ rest. take_kinds (suc i) ks rest))
      go (good (took v rest)) j ih = more v (take_kinds (suc i) ks rest) j.0 (ih rest j.1)
      go (refused m) j ih = tt

  pub row_inside : (r : Row) (fs : List Field) → FieldsInside n fs → IfGood (EventInside n) (read_row r fs)
  unfolding read_row
  row_inside r fs h = go (take_kinds 1 (kinds_of r) fs) (kinds-inside 1 (kinds_of r) fs h)
    where
      go : (o : OrRefused Read) → IfGood (ValuesInside n) o → IfGood (EventInside n) (with_values r o)
      go (good (values vs rest)) i = i.0
      go (refused m) i = tt

  -- A line

  by_type_inside : (rows : List Row) (fs : List Field) → FieldsInside n fs → IfGood (EventInside n) (by_type rows fs)
  unfolding by_type
  by_type_inside [] fs h = tt
  by_type_inside (r ∷ rs) fs h = go (read_row r fs) (row_inside r fs h) (by_type_inside rs fs h)
    where
      go : (o : OrRefused Event) → IfGood (EventInside n) o → IfGood (EventInside n) (by_type rs fs) → IfGood (EventInside n) (or_next o (by_type rs fs))
      go (good e) i j = i
      go (refused m) i j = either (IfGood (EventInside n)) (eqb (number_of m) 13) j tt

  by_name-inside : (rows : List Row) (fs : List Field) → FieldsInside n fs → IfGood (EventInside n) (by_name rows fs)
  by_name-inside [] fs h = tt
  by_name-inside (r ∷ rs) fs h = by_type_inside (r ∷ rs) fs h

  pub line_text-inside : (rows : List Row) (p : ℕ) (t : List ℕ) → p + length t ≤ n → IfGood (EventInside n) (read_text rows p t)
  unfolding read_text
  line_text-inside rows p t h = by_name-inside (rows_named rows (before (bytes ":") t)) (fields_after p t) (after-inside p t h)

  up_to_place : (q : ℕ) (e : OrRefused Event) → q ≤ n → IfGood (EventInside n) e → AnswerInside n (up_to q e)
  up_to_place q (good (event r vs)) h i = (i, h)
  up_to_place q (refused m) h i = tt

  pub line_inside : (radio : Radio) → Stays radio → (p : ℕ) (line : List ℕ) → p + length line ≤ n → AnswerInside n (read_line radio p line)
  unfolding read_line
  line_inside radio f p line h = go (framed p line) refl
    where
      go : (b : OrRefused Body) → framed p line ≡ b → AnswerInside n (up_to (p + radio.spans line) (read_framed radio b))
      go (good (body q t)) e =
          let w = framed-whole-only p line q t e in
          let u = drop 2 line in
          let l : q + length t ≤ n = omega (arith, w.begins, ends_long u w.ends, ap length w.between, length-take (length u - 2) u, length-drop 2 line) in
          let k = line_text-inside radio.rows q (radio.kept t) (omega (arith, f.keeps t)) in
          up_to_place (p + radio.spans line) (read_text radio.rows q (radio.kept t)) (omega (arith, f.ends p line q t e)) k
      go (refused m) e = tt

  -- A binary event

  pub binary-data-inside : (p : ℕ) (t : List ℕ) → p + length t ≤ n → IfGood (DataInside n) (read_data p t)
  unfolding read_data
  binary-data-inside p t h = go (leb 2 (length t)) refl (leb (announced t) (length t - 2)) refl
    where
      go : (k : Bool) → leb 2 (length t) ≡ k → (l : Bool) → leb (announced t) (length t - 2) ≡ l
          → IfGood (DataInside n) (cond k (cond l (good (data_at (p + 2) (announced t))) (refused (no 12))) (refused (no 12)))
      go true k true l = omega (arith, leb-true 2 (length t) k, leb-true (announced t) (length t - 2) l)
      go true k false l = tt
      go false k l m = tt

  with_data_lem : (r : Row) (f : OrRefused Read) (d : OrRefused Data) → IfGood (ValuesInside n) f → IfGood (DataInside n) d → AnswerInside n (with_data r f d)
  with_data_lem r (good (values vs fs)) (good (data_at p len)) i j = (each_append vs (place p len ∷ []) i.0 (j, tt), j)
  with_data_lem r (good (values vs fs)) (refused m) i j = tt
  with_data_lem r (refused m) d i j = tt

  -- the fields stand before the marker, and the data after it
  pub body-inside : (r : Row) (p : ℕ) (t : List ℕ) → p + length t ≤ n → AnswerInside n (read_body r p t)
  unfolding read_body read_fields
  body-inside r p t h = go (find_marker t) refl
    where
      go : (m : OrRefused ℕ) → m ≡ find_marker t → AnswerInside n (read_marked r p t m)
      go (good k) m =
          let i = marked-inside t 0 m in
          let l = up_to_inside (length (kinds_of r) - 1) p (take k t) (omega (arith, length-take k t)) in
          let d = binary-data-inside (p + k + 1) (drop (k + 1) t) (omega (arith, length-drop (k + 1) t)) in
          with_data_lem r (read_fields r p (take k t)) (read_data (p + k + 1) (drop (k + 1) t)) (kinds-inside 1 (kinds_of r) (fields_up_to (length (kinds_of r) - 1) p (take k t)) l) d
      go (refused k) m = tt

  pub rows_inside : (rows : List Row) (p : ℕ) (s : List ℕ) → p + length s ≤ n → TriedInside n (try_rows rows p s)
  unfolding try_rows
  rows_inside [] p s h = tt
  rows_inside (r ∷ rows) p s h = go (starts_with s (prefix r)) refl (rows_inside rows p s h)
    where
      go : (k : Bool) → starts_with s (prefix r) ≡ k → TriedInside n (try_rows rows p s)
          → TriedInside n (cond k (tried (read_body r (p + length (prefix r)) (drop (length (prefix r)) s))) (try_rows rows p s))
      go true k i =
          let l = starts_length s (prefix r) k in
          body-inside r (p + length (prefix r)) (drop (length (prefix r)) s) (omega (arith, l, length-drop (length (prefix r)) s))
      go false k i = i

  -- A response

  by_last_lem : (p : ℕ) (t : List ℕ) → p + length t ≤ n → (f : Option ℕ) → last_of crlf t ≡ f → ResponseInside n (by_last p t f)
  by_last_lem p t h (Some i) e = either (ResponseInside n) (same (drop (i + 2) t) (bytes "OK")) (omega (arith, last_fits t i e)) h
  by_last_lem p t h None e = h

  response-body : (p : ℕ) (t : List ℕ) → p + length t ≤ n → ResponseInside n (read_response_body p t)
  unfolding read_response_body
  response-body p t h =
      let last = by_last_lem p t h (last_of crlf t) refl in
      let more = either (ResponseInside n) (same t (bytes "ERROR")) tt last in
      either (ResponseInside n) (same t (bytes "OK")) (omega arith) more

  pub response-inside : (p : ℕ) (s : List ℕ) → p + length s ≤ n → IfGood (ResponseInside n) (read_response p s)
  unfolding read_response read_rest
  response-inside p s h = go (utf8 s) (ltb i (length s)) (ends_in t crlf) refl
    where
      i : ℕ
      i = first_of crlf s

      t : List ℕ
      t = drop (i + 2) s

      go : (u k x : Bool) → ends_in t crlf ≡ x
          → IfGood (ResponseInside n) (cond u (cond k (cond x (good (read_response_body (p + i + 2) (take (length t - 2) t))) (refused (no 12))) (refused (no 12))) (refused (no 11)))
      go true true true x =
          response-body (p + i + 2) (take (length t - 2) t) (omega (arith, ends_long t x, length-take (length t - 2) t, length-drop (i + 2) s))
      go true true false x = tt
      go true false x e = tt
      go false k x e = tt

-- What follows a place of s: where that place lies past the end nothing follows it, and nothing is read

pub line_none : (radio : Radio) (p : ℕ) → read_line radio p [] ≡ refused (no 12)
unfolding read_line framed
line_none radio p = rw utf8_nil

pub rows_none : (rows : List Row) (p : ℕ) → try_rows rows p [] ≡ not_binary
unfolding try_rows starts_with
rows_none [] p = refl
rows_none (r ∷ rows) p = rows_none rows p

pub response-none : (p : ℕ) → read_response p [] ≡ refused (no 12)
unfolding read_response first_of
response-none p = rw utf8_nil

at_place : {A : Type 0} (P : A → Type 0) (f : List ℕ → A) (s : List ℕ) (p : ℕ) → ((t : List ℕ) → p + length t ≤ length s → P (f t)) → P (f []) → P (f (drop p s))
at_place P f s p within past = go (leb p (length s)) refl
  where
    go : (k : Bool) → leb p (length s) ≡ k → P (f (drop p s))
    go true k = within (drop p s) (omega (arith, leb-true p (length s) k, length-drop p s))
    go false k = let l : length s ≤ p = omega (arith, leb-false p (length s) k) in rw (drop_of_length-le s l) past

module _ (s : List ℕ) (p : ℕ) where
  pub line_at : (radio : Radio) → Stays radio → AnswerInside (length s) (read_line radio p (drop p s))
  line_at radio f = at_place (AnswerInside (length s)) (read_line radio p) s p (λ t h. line_inside (length s) radio f p t h) (rw (line_none radio p) tt)

  pub rows_at : (rows : List Row) → TriedInside (length s) (try_rows rows p (drop p s))
  rows_at rows = at_place (TriedInside (length s)) (try_rows rows p) s p (λ t h. rows_inside (length s) rows p t h) (rw (rows_none rows p) tt)

  pub response-at : IfGood (ResponseInside (length s)) (read_response p (drop p s))
  response-at = at_place (IfGood (ResponseInside (length s))) (read_response p) s p (λ t h. response-inside (length s) p t h) (rw (response-none p) tt)

  -- a step of the walk
  pub step-at : StepInside (length s) (step_at s p)
  unfolding step_at read_either
  step-at = go (ltb p (length s)) refl
    where
      from : (a : OrRefused ReadEvent) → p < length s → AnswerInside (length s) a → StepInside (length s) (step_from p a)
      from (good (event_to e q)) h i = i
      from (refused m) h i = h

      or_text_lem : (t : Tried) (a : OrRefused ReadEvent) → TriedInside (length s) t → AnswerInside (length s) a → AnswerInside (length s) (or_text t a)
      or_text_lem (tried b) a i j = i
      or_text_lem not_binary a i j = j

      go : (k : Bool) → ltb p (length s) ≡ k → StepInside (length s) (cond k (step_from p (read_either p (drop p s))) end)
      go true k =
          let i = or_text_lem (try_rows binary_table p (drop p s)) (read_line w36 p (drop p s)) (rows_at binary_table) (line_at w36 stays_36) in
          from (read_either p (drop p s)) (ltb-true p (length s) k) i
      go false k = tt
