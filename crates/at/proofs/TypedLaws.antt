-- What a reader hands out fits its row (specs/Typed.antt): laws of every reader, over the definitions, for every slice s and every place p of it.
-- Assumes nothing.
use Prim.Native.Nat.{ℕ, suc, ◌+◌, ◌-◌, ◌^◌, ◌≤◌, ◌<◌}
use mathlib.Core.Path.{◌≡◌, refl, sym, ◌∙◌}
use mathlib.Core.List.{List, [], ◌∷◌, ◌++◌, append-nil}
use mathlib.Core.Logic.{inl, inr}
use mathlib.Core.Bool.{Bool, true, false, cond, ◌||◌, false≢true}
use native.Mathlib.Omega.{arith}
use lib.Dec.{ltb}
use lib.ListN.{length, take, drop, take-append-drop}
use lib.Seq.{length-take-le}
use borrow.Author.Tests.{lt-ltb, ltb-true, ltb-false}
use Rattle.text.specs.Bytes.{bytes, same, starts_with}
use Rattle.text.specs.Number.{Num, some, none, number}
use Rattle.text.specs.Find.{crlf, first_of, last_of}
use Rattle.text.specs.Utf8.{utf8, inside_character}
use Rattle.text.specs.Field.{Field, field}
use Rattle.std.specs.Prelude.{Option, Some, None}
use Rattle.text.proofs.Bools.{either, by_test}
use Rattle.text.proofs.BytesLaws.{starts_length}
use Rattle.text.proofs.NumberLaws.{number_fits}
use Rattle.text.proofs.Utf8Places.{inside_law}
use Rattle.at.specs.Refusal.{invalid, OrRefused, good, refused}
use Rattle.at.specs.declared.FieldError.TheVariants.{NotListed}
use Rattle.at.specs.Event.{Kind, bits, text, ip_type, bt_type, protocol, reason, Row, name_of, kinds_of, Value, num, place, Event, ReadEvent, event_to, up_to, listed, is_protocol, is_reason, read_field, Taken, took, and_rest, take_kind, Read, values, prepend, and_then, take_kinds, with_values, read_row}
use Rattle.at.specs.Line.{before, ends_in, Radio, Body, body, ended, framed, rows_named, fields_after, by_name, read_text, read_framed, read_line}
use Rattle.at.specs.Binary.{fields_up_to, read_fields, marker, find_marker, Data, data_at, read_data, with_data, read_marked, read_body, Tried, not_binary, tried, prefix, try_rows}
use Rattle.at.specs.Response.{by_last, read_rest, read_response, read_body as read_response_body}
use Rattle.at.specs.W26.{w26}
use Rattle.at.specs.W36.{binary_table, w36}
use Rattle.at.specs.Walk.{or_text, read_either, step_from, step_at}
use Rattle.at.specs.Inside.{IfGood}
use Rattle.at.specs.Typed.{OfKind, OfKinds, OfKindsThenData, Listed, TextOf, ReadBinaryOf, TextAnswer, TriedTyped, ResponseTyped, StepTyped}
use Rattle.at.proofs.RowsLaws.{Each, each_named, read_by-one}
use Rattle.at.proofs.HeldLaws.{first_found, before-utf8, utf8-rest, Stands, Held, FieldsHeld, stands_rest, stands_front, stands_take, stands_drop, text_at_lem, none-at, held_cut, held-cut_at, some-held, after-held}
use Rattle.at.proofs.EndLaws.{ends-split}
use Rattle.at.proofs.ResponseLaws.{below_at, last_fits}
use Rattle.at.proofs.WhyLaws.{each_numbered}

-- a radio that keeps of a text a part in front, which is UTF-8 where the text is
pub record Trims (radio : Radio) : Type 0 where
  pub rest : List ℕ → List ℕ
  pub front : (t : List ℕ) → radio.kept t ++ rest t ≡ t
  pub clean : (t : List ℕ) → utf8 t ≡ true → utf8 (radio.kept t) ≡ true

pub trims_26 : Trims w26
trims_26 = record { rest = λ t. []; front = λ t. append-nil t; clean = λ t u. u }

pub trims_36 : Trims w36
unfolding before
trims_36 = record {
  rest = λ t. drop (first_of crlf t) t;
  front = λ t. take-append-drop (first_of crlf t) t;
  clean = λ t u. before-utf8 13 (10 ∷ []) t (omega arith) u;
}

abbrev TakenTyped : List ℕ → Kind → Taken → Type 0
TakenTyped s k (took v fs) = OfKind s k v × FieldsHeld s fs

abbrev ValuesTyped : List ℕ → List Kind → Read → Type 0
ValuesTyped s ks (values vs fs) = OfKinds s ks vs

abbrev BodyHeld : List ℕ → Body → Type 0
BodyHeld s (body p t) = Held s p t

module _ (s : List ℕ) where
  -- The values of fields

  listed-typed : (k : Kind) (i : ℕ) (in_list : ℕ → Bool) (m : Num) → ((x : ℕ) → m ≡ some x → in_list x ≡ true → OfKind s k (num x)) → IfGood (OfKind s k) (listed i in_list m)
  listed-typed k i in_list (none why) f = tt
  listed-typed k i in_list (some x) f = go (in_list x) refl
    where
      go : (t : Bool) → in_list x ≡ t → IfGood (OfKind s k) (cond t (good (num x)) (refused (invalid i NotListed)))
      go true e = f x refl e
      go false e = tt

  field-typed : (i : ℕ) (k : Kind) (p : ℕ) (b : List ℕ) → Held s p b → IfGood (OfKind s k) (read_field i k p b)
  unfolding read_field
  field-typed i (bits w) p b h = listed-typed (bits w) i (λ x. true) (number w b) (λ x e t. lt-ltb x (2 ^ w) (number_fits w x b e))
  field-typed i text p b h = text_at_lem s p (length b) b refl h
  field-typed i ip_type p b h =
      either (IfGood (OfKind s ip_type)) (same b (bytes "2")) refl (either (IfGood (OfKind s ip_type)) (same b (bytes "3")) refl tt)
  field-typed i bt_type p b h = either (IfGood (OfKind s bt_type)) (same b (bytes "1")) refl tt
  field-typed i protocol p b h = listed-typed protocol i is_protocol (number 8 b) (λ x e t. t)
  field-typed i reason p b h = listed-typed reason i is_reason (number 8 b) (λ x e t. t)

  kind-typed : (i : ℕ) (k : Kind) (fs : List Field) → FieldsHeld s fs → IfGood (TakenTyped s k) (take_kind i k fs)
  unfolding take_kind
  kind-typed i k [] h = tt
  kind-typed i k (field p b ∷ fs) h = go (read_field i k p b) (field-typed i k p b h.0)
    where
      go : (v : OrRefused Value) → IfGood (OfKind s k) v → IfGood (TakenTyped s k) (and_rest v fs)
      go (good v) j = (j, h.1)
      go (refused m) j = tt

  kinds-typed : (i : ℕ) (ks : List Kind) (fs : List Field) → FieldsHeld s fs → IfGood (ValuesTyped s ks) (take_kinds i ks fs)
  unfolding take_kinds
  kinds-typed i [] fs h = tt
  kinds-typed i (k ∷ ks) fs h = go (take_kind i k fs) (kind-typed i k fs h) (kinds-typed (suc i) ks)
    where
      more : (v : Value) (o : OrRefused Read) → OfKind s k v → IfGood (ValuesTyped s ks) o → IfGood (ValuesTyped s (k ∷ ks)) (prepend v o)
      more v (good (values vs rest)) i j = (i, j)
      more v (refused m) i j = tt

      go : (t : OrRefused Taken) → IfGood (TakenTyped s k) t
          → ((rest : List Field) → FieldsHeld s rest → IfGood (ValuesTyped s ks) (take_kinds (suc i) ks rest))
          → IfGood (ValuesTyped s (k ∷ ks)) (and_then t (λ rest. take_kinds (suc i) ks rest))
      go (good (took v rest)) j ih = more v (take_kinds (suc i) ks rest) j.0 (ih rest j.1)
      go (refused m) j ih = tt

  -- A line, by a table

  framed-held : (p : ℕ) (line : List ℕ) → Stands s p line → IfGood (BodyHeld s) (framed p line)
  unfolding framed ended
  framed-held p line h =
      let P = IfGood (BodyHeld s) in
      let t = drop 2 line in
      by_test P (utf8 line)
      (λ u. by_test P (ltb (length line) 2 || inside_character line 2) (λ k. tt)
      (λ k. by_test P (ends_in t crlf) (λ e. (held_cut s (p + 2) (take (length t - 2) t) 13 (10 ∷ []) (omega arith) (rw (← ends-split t e) (after_two u k))).0) (λ e. tt)))
      (λ u. tt)
    where
      neither : (a b : Bool) → (a || b) ≡ false → (a ≡ false) × (b ≡ false)
      neither true b e = absurd (false≢true (sym e))
      neither false b e = (refl, e)

      -- what follows the first two bytes, which are whole characters
      after_two : utf8 line ≡ true → (ltb (length line) 2 || inside_character line 2) ≡ false → Held s (p + 2) (drop 2 line)
      after_two u k =
          let n = neither (ltb (length line) 2) (inside_character line 2) k in
          let l = ltb-false (length line) 2 n.0 in
          let f : utf8 (take 2 line) ≡ true = inside_law line 2 u l ∙ rw n.1 in
          (stands_drop s p 2 line l h, utf8-rest (take 2 line) (drop 2 line) (rw (take-append-drop 2 line) u) f)

  module _ (rows : List Row) where
    row_typed : (r : Row) → Listed rows r → (fs : List Field) → FieldsHeld s fs → IfGood (TextOf rows s) (read_row r fs)
    unfolding read_row
    row_typed r l fs h = go (take_kinds 1 (kinds_of r) fs) (kinds-typed 1 (kinds_of r) fs h)
      where
        go : (o : OrRefused Read) → IfGood (ValuesTyped s (kinds_of r)) o → IfGood (TextOf rows s) (with_values r o)
        go (good (values vs rest)) i = (l, i)
        go (refused m) i = tt

    text-typed : (p : ℕ) (t : List ℕ) → Held s p t → IfGood (TextOf rows s) (read_text rows p t)
    unfolding read_text
    text-typed p t h = go (by_name (rows_named rows name) fs) refl
      where
        name : List ℕ
        name = before (bytes ":") t

        fs : List Field
        fs = fields_after p t

        -- the row that an event is read by is one of the table
        go : (o : OrRefused Event) → by_name (rows_named rows name) fs ≡ o → IfGood (TextOf rows s) o
        go (good e) q =
            let b = read_by-one (λ r. Listed rows r × (name ≡ name_of r)) fs e (rows_named rows name) (each_named (Listed rows) rows name (each_numbered rows)) q in
            rw b.2 at (row_typed b.0 b.1.0 fs (after-held s p t h))
        go (refused m) q = tt

    up_to_typed : (q : ℕ) (e : OrRefused Event) → IfGood (TextOf rows s) e → TextAnswer rows s (up_to q e)
    up_to_typed q (good e) i = i
    up_to_typed q (refused m) i = tt

  pub line_held : (radio : Radio) → Trims radio → (p : ℕ) (line : List ℕ) → Stands s p line → TextAnswer radio.rows s (read_line radio p line)
  unfolding read_line
  line_held radio f p line h = go (framed p line) (framed-held p line h)
    where
      go : (b : OrRefused Body) → IfGood (BodyHeld s) b → TextAnswer radio.rows s (up_to (p + radio.spans line) (read_framed radio b))
      go (good (body q t)) i =
          let k : Held s q (radio.kept t) = (stands_front s q (radio.kept t) (f.rest t) (rw (f.front t) i.0), f.clean t i.1) in
          up_to_typed radio.rows (p + radio.spans line) (read_text radio.rows q (radio.kept t)) (text-typed radio.rows q (radio.kept t) k)
      go (refused m) i = tt

  -- A binary event, by a table

  -- the bytes before the marker are UTF-8
  marker_clean : (t : List ℕ) → IfGood (λ k. utf8 (take k t) ≡ true) (find_marker t)
  unfolding find_marker
  marker_clean t =
      let P = IfGood (λ k. utf8 (take k t) ≡ true) in
      let i = first_of marker t in
      either P (ltb i (length t)) (by_test P (utf8 (take i t)) (λ u. u) (λ u. tt)) tt

  data-after : (ks : List Kind) (vs : List Value) (p n : ℕ) → OfKinds s ks vs → OfKindsThenData s ks (vs ++ place p n ∷ [])
  data-after [] [] p n h = tt
  data-after [] (v ∷ vs) p n h = absurd h
  data-after (k ∷ ks) [] p n h = absurd h
  data-after (k ∷ ks) (v ∷ vs) p n h = (h.0, data-after ks vs p n h.1)

  module _ (rows : List Row) where
    with_data_lem : (r : Row) → Listed rows r → (f : OrRefused Read) (d : OrRefused Data) → IfGood (ValuesTyped s (kinds_of r)) f
        → IfGood (ReadBinaryOf rows s) (with_data r f d)
    with_data_lem r l (good (values vs fs)) (good (data_at p n)) i = (l, data-after (kinds_of r) vs p n i)
    with_data_lem r l (good (values vs fs)) (refused m) i = tt
    with_data_lem r l (refused m) d i = tt

    body_typed : (r : Row) → Listed rows r → (p : ℕ) (t : List ℕ) → Stands s p t → IfGood (ReadBinaryOf rows s) (read_body r p t)
    unfolding read_body read_fields
    body_typed r l p t h = go (find_marker t) (marker_clean t)
      where
        go : (m : OrRefused ℕ) → IfGood (λ k. utf8 (take k t) ≡ true) m → IfGood (ReadBinaryOf rows s) (read_marked r p t m)
        go (good k) u =
            let fs = fields_up_to (length (kinds_of r) - 1) p (take k t) in
            let i = some-held s (length (kinds_of r) - 1) p (take k t) (stands_take s p k t h, u) in
            with_data_lem r l (take_kinds 1 (kinds_of r) fs) (read_data (p + k + 1) (drop (k + 1) t)) (kinds-typed 1 (kinds_of r) fs i)
        go (refused m) u = tt

    rows-held : (rs : List Row) → Each (Listed rows) rs → (p : ℕ) (t : List ℕ) → Stands s p t → TriedTyped rows s (try_rows rs p t)
    unfolding try_rows
    rows-held [] l p t h = tt
    rows-held (r ∷ rs) l p t h =
        let n = length (prefix r) in
        by_test (TriedTyped rows s) (starts_with t (prefix r))
        (λ e. body_typed r l.0 (p + n) (drop n t) (stands_drop s p n t (starts_length t (prefix r) e) h)) (λ e. rows-held rs l.1 p t h)

  -- A response

  by_last_lem : (p : ℕ) (t : List ℕ) → Held s p t → (f : Option ℕ) → last_of crlf t ≡ f → ResponseTyped s (by_last p t f)
  unfolding last_of
  by_last_lem p t h (Some i) e =
      let l : i ≤ length t = omega (arith, last_fits t i e) in
      let c = held-cut_at s p 13 (10 ∷ []) t i (omega arith) l (below_at crlf t (length t) i e) h in
      either (ResponseTyped s) (same (drop (i + 2) t) (bytes "OK")) (text_at_lem s p i (take i t) (length-take-le i t l) c.0) (text_at_lem s p (length t) t refl h)
  by_last_lem p t h None e = text_at_lem s p (length t) t refl h

  response-body : (p : ℕ) (t : List ℕ) → Held s p t → ResponseTyped s (read_response_body p t)
  unfolding read_response_body
  response-body p t h =
      either (ResponseTyped s) (same t (bytes "OK")) (none-at s p)
      (either (ResponseTyped s) (same t (bytes "ERROR")) tt (by_last_lem p t h (last_of crlf t) refl))

  pub response-held : (p : ℕ) (t : List ℕ) → Stands s p t → IfGood (ResponseTyped s) (read_response p t)
  unfolding read_response read_rest
  response-held p t h =
      let P = IfGood (ResponseTyped s) in
      let i = first_of crlf t in
      let r = drop (i + 2) t in
      by_test P (utf8 t)
      (λ u. by_test P (ltb i (length t))
      (λ k. by_test P (ends_in r crlf)
      (λ e. response-body (p + i + 2) (take (length r - 2) r)
      (held_cut s (p + i + 2) (take (length r - 2) r) 13 (10 ∷ []) (omega arith) (rw (← ends-split r e) (after_first u (ltb-true i (length t) k)))).0) (λ e. tt))
      (λ k. tt))
      (λ u. tt)
    where
      -- what follows the first CR LF
      after_first : utf8 t ≡ true → first_of crlf t < length t → Held s (p + first_of crlf t + 2) (drop (first_of crlf t + 2) t)
      after_first u l =
          let i = first_of crlf t in
          let c = (held-cut_at s p 13 (10 ∷ []) t i (omega arith) (omega arith) (first_found crlf t l) (h, u)).1 in
          let z : p + i + 1 + 0 + 1 ≡ p + i + 2 = omega arith in
          rw z at (held_cut s (p + i + 1) [] 10 (drop (i + 2) t) (omega arith) c).1

-- What follows a place of s

module _ (s : List ℕ) (p : ℕ) where
  pub line_typed : (radio : Radio) → Trims radio → TextAnswer radio.rows s (read_line radio p (drop p s))
  line_typed radio f = line_held s radio f p (drop p s) (stands_rest s p)

  pub rows-typed : (rows : List Row) → TriedTyped rows s (try_rows rows p (drop p s))
  rows-typed rows = rows-held s rows rows (each_numbered rows) p (drop p s) (stands_rest s p)

  pub response-typed : IfGood (ResponseTyped s) (read_response p (drop p s))
  response-typed = response-held s p (drop p s) (stands_rest s p)

  -- a step of the walk
  pub step_typed : StepTyped s (step_at s p)
  unfolding step_at read_either
  step_typed =
      either (StepTyped s) (ltb p (length s))
      (go (try_rows binary_table p (drop p s)) (rows-typed binary_table) (read_line w36 p (drop p s)) (line_typed w36 trims_36)) tt
    where
      go : (b : Tried) → TriedTyped binary_table s b → (l : OrRefused ReadEvent) → TextAnswer w36.rows s l → StepTyped s (step_from p (or_text b l))
      go (tried (good (event_to e q))) i l j = inr i
      go (tried (refused m)) i l j = tt
      go not_binary i (good (event_to e q)) j = inl j
      go not_binary i (refused m) j = tt
