-- The parts of a line: their lengths, and the line put part by part. What is written of a row's values, cut into fields and data.
use borrow.Author.Tests.{leb-true, leb-false}
use mathlib.Core.Bool.{Bool, true, false, false≢true}
use mathlib.Core.List.{List, [], ◌∷◌, ◌++◌, append-nil, map}
use mathlib.Core.Path.{◌≡◌, refl, ap, sym, ◌∙◌}
use Prim.Native.Nat.{ℕ, ◌+◌, ◌≤◌, ◌<◌, ◌/◌, ◌%◌, ◌-◌, min}
use native.Mathlib.Omega.{arith}
use lib.Dec.{leb}
use lib.ListN.{length, take, drop, length-append, length-take, length-map, drop_of_length-le}
use lib.Seq.{take_all}
use Rattle.std.specs.Prelude.{Option, Some, None, SomeIff, is_some, slice_get}
use Rattle.std.proofs.lemmas.List.{take-map, drop-map}
use Rattle.std.specs.Int.{w16, to_be_bytes}
use Rattle.text.proofs.Bools.{and_right}
use Rattle.text.proofs.PutAppend.{after_append}
use Rattle.text.specs.Bytes.{part}
use Rattle.text.specs.Find.{crlf}
use Rattle.text.specs.Put.{after}
use Rattle.at.specs.Event.{Row, name_of, kinds_of, Value, num, place, event}
use Rattle.at.specs.Parts.{value_of, values_of}
use Rattle.at.specs.declared.parts.Parts.{Parts}
use Rattle.at.specs.declared.parts.Value as code
use Rattle.writer.specs.Line.{content_of, contents_of, written, after_name, ending, line_with, line_of}
use Rattle.writer.specs.Steps.{texts, data_in, ends, bytes_of, can_be_written, write_as}
use Rattle.writer.specs.Write.{writable_fields, writable_data, writable_end, writable, to_write}
use Rattle.writer.specs.declared.line.Line.{Line}

-- a length of two bytes
pub two_bytes : (n : ℕ) → n ≤ 65535 → to_be_bytes w16 n ≡ n / 256 ∷ n % 256 ∷ []
two_bytes n h = let e : n / 256 % 256 ≡ n / 256 = omega arith in rw e

small : (src : List ℕ) (v : Value) → writable_data src v ≡ true → length (written (content_of src v)) ≤ 65535
unfolding part
small src (num k) t = absurd (false≢true t)
small src (place start len) t =
    let n : len ≤ 65535 = leb-true len 65535 (and_right (leb (start + len) (length src)) (leb len 65535) t) in
    simp length-take (omega arith)

module _ (l : Line) where
  -- with data after the fields, whose length is one of two bytes
  module _ (d : code.Value) (e : l.data ≡ Some d) where
    pub ends_data : (w : List ℕ) → w ≡ written (content_of l.src.now (value_of d)) → ends l ≡ 1 ∷ length w / 256 ∷ length w % 256 ∷ w
    unfolding ends ending
    ends_data w q = rw (e, q)

    pub data_small : can_be_written l ≡ true → length (written (content_of l.src.now (value_of d))) ≤ 65535
    data_small w = small l.src.now (value_of d) (and_right (writable_fields true l.src.now (map value_of l.fields.now)) (writable_data l.src.now (value_of d)) (rw e at w))

  -- with none
  pub ends_bare : l.data ≡ None → ends l ≡ crlf
  unfolding ends ending
  ends_bare e = rw e

  pub bytes_length : length (bytes_of l) ≡ 2 + length l.name.now + length (after_name (texts l.src.now l.fields.now)) + length (ends l)
  unfolding bytes_of
  bytes_length =
      let head = crlf ++ l.name.now in
      let fields = after_name (texts l.src.now l.fields.now) in
      length-append (head ++ fields) (ends l) ∙ rw (length-append head fields) (omega arith)

  -- the head, the fields and the end, put one after the other, are the line
  pub line_put : (b : List ℕ) → length (bytes_of l) ≤ length b
      → after (after (after (after b 0 crlf) 2 l.name.now) (2 + length l.name.now) (after_name (texts l.src.now l.fields.now))) (2 + length l.name.now + length (after_name (texts l.src.now l.fields.now))) (ends l)
      ≡ after b 0 (bytes_of l)
  unfolding bytes_of
  line_put b fits =
      let name = l.name.now in
      let head = crlf ++ name in
      let fields = after_name (texts l.src.now l.fields.now) in
      let end = ends l in
      let len : length (head ++ fields ++ end) ≡ 2 + length name + length fields + length end = bytes_length in
      let h : 2 + length name ≡ 0 + length head = omega arith in
      let m : 2 + length name + length fields ≡ 0 + length (head ++ fields) = omega (arith, length-append head fields) in
      let room : 0 + length (head ++ fields) + length end ≤ length b = omega (arith, length-append head fields) in
      let first : after (after b 0 crlf) 2 name ≡ after b 0 head = after_append b 0 crlf name (omega arith) in
      let second : after (after b 0 head) (2 + length name) fields ≡ after b 0 (head ++ fields)
      = ap (λ (k : ℕ). after (after b 0 head) k fields) h ∙ after_append b 0 head fields (omega arith) in
      rw (first, second) (ap (λ (k : ℕ). after (after b 0 (head ++ fields)) k end) m ∙ after_append b 0 (head ++ fields) end room)

-- the room after the last part, as the room after all of them
pub after_all : (r : Option ℕ) (last left all room : ℕ) → SomeIff r (last ≤ left) (left - last) → left + all ≡ room + last → SomeIff r (all ≤ room) (room - all)
after_all (Some k) last left all room s e = (omega (arith, s.0), omega (arith, s.0, s.1))
after_all None last left all room s e = λ h. s (omega arith)

-- an answer that is there says that there was room
pub there : (r : Option ℕ) (n room : ℕ) → SomeIff r (n ≤ room) (room - n) → is_some r ≡ true → n ≤ room
there (Some k) n room s e = s.0
there None n room s e = absurd (false≢true e)

-- only the first of the values after the fields counts
ending_first : (src : List ℕ) (later : List Value) → ending (contents_of src (take 1 later)) ≡ ending (contents_of src later)
unfolding ending
ending_first src [] = refl
ending_first src (d ∷ ds) = refl

writable_first : (src : List ℕ) (fields later : List Value) → writable_end src fields (take 1 later) ≡ writable_end src fields later
writable_first src fields [] = refl
writable_first src fields (d ∷ ds) = refl

data_first : (later : List code.Value) → data_in (slice_get later 0) ≡ take 1 (map value_of later)
data_first [] = refl
data_first (d ∷ ds) = refl

-- the fields are as many as the row has kinds, or all values where there are fewer
cut : {A : Type 0} (k n m : ℕ) (xs : List A) → length xs ≡ m → n ≡ min k m → (take n xs ≡ take k xs) × (drop n xs ≡ drop k xs)
cut k n m xs l e = go (leb k m) refl
  where
    go : (b : Bool) → leb k m ≡ b → (take n xs ≡ take k xs) × (drop n xs ≡ drop k xs)
    go true t = let f : n ≡ k = omega (arith, leb-true k m t) in rw f (refl, refl)
    go false t =
        let g : m < k = leb-false k m t in
        let x : length xs ≤ n = omega arith in
        let y : length xs ≤ k = omega arith in
        (take_all n xs x ∙ sym (take_all k xs y), drop_of_length-le xs {i = n} x ∙ sym (drop_of_length-le xs {i = k} y))

-- the values of parts, cut where a row's fields end
module _ (p : Parts) (m : ℕ) (whole : m ≡ length (values_of p)) where
  all_values : map value_of (take m p.values) ≡ values_of p
  all_values =
      let xs = map value_of p.values in
      sym (take-map value_of m p.values) ∙ (cut p.count m (length xs) xs refl (whole ∙ length-take p.count xs)).0

  pub cut_values : (k n : ℕ) → n ≡ min k (length (take m p.values))
      → (map value_of (take n (take m p.values)) ≡ take k (values_of p)) × (data_in (slice_get (drop n (take m p.values)) 0) ≡ take 1 (drop k (values_of p)))
  cut_values k n e =
      let held = take m p.values in
      let both = cut k n (length held) (values_of p) (ap length (sym all_values) ∙ length-map held value_of) e in
      let fields = sym (take-map value_of n held) ∙ ap (take n) all_values ∙ both.0 in
      let later = sym (drop-map value_of n held) ∙ ap (drop n) all_values ∙ both.1 in
      (fields, data_first (drop n held) ∙ ap (take 1) later)

-- a line with a row's name, whose fields are the first of the row's values and whose data are the next one, is the row's
module _ (room : ℕ) (l : Line) (r : Row) (vs : List Value) (name : l.name.now ≡ name_of r) (fields : map value_of l.fields.now ≡ take (length (kinds_of r)) vs) where
  row_bytes : data_in l.data ≡ take 1 (drop (length (kinds_of r)) vs) → bytes_of l ≡ line_of r (contents_of l.src.now vs)
  unfolding line_of line_with bytes_of ends
  row_bytes one =
      let s = l.src.now in
      let k = length (kinds_of r) in
      rw (name, fields, one, ending_first s (drop k vs), ← take-map (content_of s) k vs, ← drop-map (content_of s) k vs, append-nil (map written (take k (contents_of s vs))))

  row_writable : data_in l.data ≡ take 1 (drop (length (kinds_of r)) vs) → can_be_written l ≡ writable l.src.now r vs
  unfolding writable
  row_writable one = rw (fields, one) (writable_first l.src.now (take (length (kinds_of r)) vs) (drop (length (kinds_of r)) vs))

  pub row_write : data_in l.data ≡ take 1 (drop (length (kinds_of r)) vs) → write_as room l ≡ to_write room l.src.now (event r vs)
  unfolding to_write
  row_write one = rw (row_bytes one, row_writable one)
