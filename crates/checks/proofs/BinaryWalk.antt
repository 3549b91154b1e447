-- An accepted binary event as a walk over its fields: its first two bytes, its name, each field before the marker, and the data.
use Prim.Native.Nat.{ℕ, suc, ◌+◌, ◌-◌, ◌≤◌, ◌<◌}
use mathlib.Core.Path.{◌≡◌, refl, sym, ap, ◌∙◌}
use mathlib.Core.List.{List, [], ◌∷◌, ◌++◌, append_assoc}
use mathlib.Core.Bool.{Bool, true, false, cond}
use native.Mathlib.Omega.{arith}
use lib.Dec.{leb, ltb}
use lib.ListN.{length, take, drop, length-append, length-drop, take-append-drop}
use lib.Seq.{drop-drop, take-append-le, take-append-add, take-append_seam, drop-append-le, drop-append_seam, length-take-le}
use borrow.Author.Tests.{leb-true, ltb-true, leb-false}
use Rattle.text.specs.Bytes.{bytes, part, starts_with}
use Rattle.text.specs.Find.{crlf, first_of}
use Rattle.text.specs.Utf8.{utf8}
use Rattle.text.specs.Field.{Field}
use Rattle.text.proofs.Bools.{by_test}
use Rattle.text.proofs.BytesLaws.{starts_split}
use Rattle.at.specs.Refusal.{Refusal, OrRefused, good, refused, no}
use Rattle.at.specs.Event.{Kind, bits, text, Row, name_of, kinds_of, Value, place, event, ReadEvent, event_to, read_field, and_rest, take_kind, Read, values, prepend, and_then, take_kinds}
use Rattle.at.specs.Binary.{fields_up_to, read_fields, marker, find_marker, data_at, announced, read_data, with_data, read_marked, read_body, Tried, not_binary, tried, prefix, try_rows}
use Rattle.at.specs.W36.{binary_table}
use Rattle.at.specs.Inside.{IfGood}
use Rattle.at.proofs.BinaryLaws.{up_to_comma, up_to_last}
use Rattle.checks.specs.Slot.{span_of}
use Rattle.checks.specs.declared.slot.Span.TheVariants.{UpTo}
use Rattle.checks.proofs.FirstLaws.{Lacks, lacks_drop, lacks_before, first_there, first-at, first_front}
use Rattle.checks.proofs.LineWalk.{FieldAt}

-- fields one after the other, of which the others have a comma before them. The last one goes up to the marker, which stands at the place `end`
abbrev pub MarkedWalk : List ℕ → ℕ → ℕ → ℕ → List Kind → ℕ → ℕ → List Value → Type 0
MarkedWalk s m end j ks c x [] = ⊥
MarkedWalk s m end j [] c x (v ∷ vs) = ⊥
MarkedWalk s m end j (k ∷ ks) c x (v ∷ []) = (n : ℕ) × FieldAt s 1 m j k c x n v × (c + 1 + n ≡ end)
MarkedWalk s m end j (k ∷ ks) c x (v ∷ y ∷ vs) = (n : ℕ) × FieldAt s 44 m j k c x n v × MarkedWalk s m end (suc j) ks (c + 1 + n) 44 (y ∷ vs)

-- an event at the place p that was read up to the place `past`: CR LF, a name of `named` bytes up to the colon, the fields of the values vs, the
-- marker at the place `marked`, two length bytes, and `size` data bytes. All its values are vs and the place of the data
pub record BinaryAt (s : List ℕ) (p : ℕ) (r : Row) (all : List Value) (past : ℕ) : Type 0 where
  pub named : ℕ
  pub marked : ℕ
  pub size : ℕ
  pub vs : List Value
  pub begins : take 2 (drop p s) ≡ crlf
  pub span : span_of (UpTo 58 (length s - past)) (drop (p + 2) s) ≡ named
  pub fields : MarkedWalk s (length s - past) marked 0 (kinds_of r) (p + 2 + named) 58 vs
  pub answer : all ≡ vs ++ place (marked + 1 + 2) size ∷ []
  pub ends : past ≡ marked + 1 + 2 + size
  pub room : past ≤ length s

abbrev pub BinaryWalk : List ℕ → ℕ → ReadEvent → Type 0
BinaryWalk s p (event_to (event r vs) past) = BinaryAt s p r vs past

-- spans up to a byte, where at most m bytes of w are left out
module _ (b m q : ℕ) (s u w : List ℕ) where
  shorter : m ≤ length w → take (length (u ++ w) - m) (u ++ w) ≡ u ++ take (length w - m) w
  shorter h =
      let n : length (u ++ w) - m ≡ length u + (length w - m) = omega (arith, length-append u w) in
      rw n (take-append-add u w (length w - m))

  up_to_found : drop q s ≡ u ++ w → m ≤ length w → first_of (b ∷ []) u < length u → span_of (UpTo b m) (drop q s) ≡ first_of (b ∷ []) u
  unfolding span_of
  up_to_found e h l = rw (e, shorter h) (first_front b u (take (length w - m) w) l)

up_to_stop : (b m q : ℕ) (s u w : List ℕ) → drop q s ≡ u ++ b ∷ w → m ≤ length w → Lacks b u → span_of (UpTo b m) (drop q s) ≡ length u
unfolding span_of
up_to_stop b m q s u w e h l =
    let n : suc (length w) - m ≡ suc (length w - m) = omega arith in
    rw (e, shorter b m q s u (b ∷ w) (omega arith), n) (first-at b u (take (length w - m) w) l)

-- The fields before the marker, which is followed by w; m bytes follow the data
module _ (s w : List ℕ) (m end : ℕ) (room : m ≤ length w) where
  abbrev Walked : ℕ → List Kind → ℕ → ℕ → Read → Type 0
  Walked j ks c x (values vs fs) = MarkedWalk s m end j ks c x vs

  module _ (j : ℕ) (k : Kind) (c : ℕ) (u : List ℕ) (x : ℕ) (ec : drop c s ≡ x ∷ (u ++ 1 ∷ w)) where
    on : drop (c + 1) s ≡ u ++ 1 ∷ w
    on = sym (drop-drop 1 c s) ∙ rw ec

    in_text_lem : c + 1 + m ≤ length s
    in_text_lem = omega (arith, ap length ec, length-append u (1 ∷ w), length-drop c s)

    last_field : (v : Value) → Lacks 1 u → read_field (suc j) k (c + 1) u ≡ good v → FieldAt s 1 m j k c x (length u) v
    unfolding part
    last_field v l er =
        let b : take (length u) (drop (c + 1) s) ≡ u = rw on (take-append_seam u (1 ∷ w)) in
        record { room = in_text_lem; mark = rw ec; span = up_to_stop 1 m (c + 1) s u w on room l; read = rw b er }

    one_field : (v : Value) → first_of (44 ∷ []) u < length u → read_field (suc j) k (c + 1) (take (first_of (44 ∷ []) u) u) ≡ good v
        → FieldAt s 44 m j k c x (first_of (44 ∷ []) u) v
    unfolding part
    one_field v l er =
        let n = first_of (44 ∷ []) u in
        let b : take n (drop (c + 1) s) ≡ take n u = rw on (take-append-le n u (1 ∷ w) (omega arith)) in
        record { room = in_text_lem; mark = rw ec; span = up_to_found 44 m (c + 1) s u (1 ∷ w) on (omega arith) l; read = rw b er }

  marked-walk : (j : ℕ) (k : Kind) (ks : List Kind) (c : ℕ) (u : List ℕ) (x : ℕ) → drop c s ≡ x ∷ (u ++ 1 ∷ w) → Lacks 1 u
      → c + 1 + length u ≡ end
      → IfGood (Walked j (k ∷ ks) c x) (take_kinds (suc j) (k ∷ ks) (fields_up_to (length ks) (c + 1) u))
  unfolding take_kinds take_kind fields_up_to
  marked-walk j k [] c u x ec l ee = go (read_field (suc j) k (c + 1) u) refl
    where
      go : (a : OrRefused Value) → read_field (suc j) k (c + 1) u ≡ a
          → IfGood (Walked j (k ∷ []) c x) (and_then (and_rest a []) (λ rest. good (values [] rest)))
      go (good v) e = (length u, last_field j k c u x ec v l e, ee)
      go (refused n) e = tt
  marked-walk j k (q ∷ ks) c u x ec l ee = go (leb (length u) n) refl (marked-walk (suc j) q ks)
    where
      n : ℕ
      n = first_of (44 ∷ []) u

      more : (v : Value) (o : OrRefused Read) → n < length u → read_field (suc j) k (c + 1) (take n u) ≡ good v
          → IfGood (Walked (suc j) (q ∷ ks) (c + 1 + n) 44) o → IfGood (Walked j (k ∷ q ∷ ks) c x) (prepend v o)
      more v (good (values [] fs)) h e i = absurd i
      more v (good (values (y ∷ vs) fs)) h e i = (n, one_field j k c u x ec v h e, i)
      more v (refused r) h e i = tt

      taken : (fs : List Field) (a : OrRefused Value) → read_field (suc j) k (c + 1) (take n u) ≡ a → n < length u
          → IfGood (Walked (suc j) (q ∷ ks) (c + 1 + n) 44) (take_kinds (suc (suc j)) (q ∷ ks) fs)
          → IfGood (Walked j (k ∷ q ∷ ks) c x) (and_then (and_rest a fs) (λ rest. take_kinds (suc (suc j)) (q ∷ ks) rest))
      taken fs (good v) e h i = more v (take_kinds (suc (suc j)) (q ∷ ks) fs) h e i
      taken fs (refused r) e h i = tt

      alone : (a : OrRefused Value) → IfGood (Walked j (k ∷ q ∷ ks) c x) (and_then (and_rest a []) (λ rest. take_kinds (suc (suc j)) (q ∷ ks) rest))
      alone (good v) = tt
      alone (refused r) = tt

      go : (t : Bool) → leb (length u) n ≡ t
          → ((d : ℕ) (z : List ℕ) (y : ℕ) → drop d s ≡ y ∷ (z ++ 1 ∷ w) → Lacks 1 z → d + 1 + length z ≡ end
          → IfGood (Walked (suc j) (q ∷ ks) d y) (take_kinds (suc (suc j)) (q ∷ ks) (fields_up_to (length ks) (d + 1) z)))
          → IfGood (Walked j (k ∷ q ∷ ks) c x)
          (and_then (take_kind (suc j) k (fields_up_to (suc (length ks)) (c + 1) u)) (λ rest. take_kinds (suc (suc j)) (q ∷ ks) rest))
      go true t ih = rw (up_to_last (length ks) (c + 1) u (leb-true (length u) n t)) (alone (read_field (suc j) k (c + 1) u))
      go false t ih =
          let h = leb-false (length u) n t in
          let f : n + 1 ≡ suc n = omega arith in
          let d : drop (c + 1 + n) s ≡ 44 ∷ (drop (n + 1) u ++ 1 ∷ w) =
          sym (drop-drop n (c + 1) s) ∙ rw (on j k c u x ec, drop-append-le n u (1 ∷ w) (omega arith), f, first_there 44 u h) in
          let g : c + 1 + n + 1 + length (drop (n + 1) u) ≡ end = omega (arith, length-drop (n + 1) u) in
          rw (up_to_comma (length ks) (c + 1) u h)
          (taken (fields_up_to (length ks) (c + 1 + n + 1) (drop (n + 1) u)) (read_field (suc j) k (c + 1) (take n u)) refl h
          (ih (c + 1 + n) (drop (n + 1) u) 44 d (lacks_drop 1 (n + 1) u l) g))

-- A row of binary events: it has a field, and no colon in its name
pub record Plain (r : Row) : Type 0 where
  pub first : Kind
  pub others : List Kind
  pub kinds : kinds_of r ≡ first ∷ others
  pub name : Lacks 58 (name_of r)

module _ (s : List ℕ) (p : ℕ) (r : Row) (plain : Plain r) (starts : starts_with (drop p s) (prefix r) ≡ true) where
  name : List ℕ
  name = name_of r

  after : List ℕ
  after = drop (length (prefix r)) (drop p s)

  place_of_colon : ℕ
  place_of_colon = p + 2 + length name

  prefix-length : length (prefix r) ≡ length name + 3
  unfolding name
  prefix-length = omega (arith, length-append name (bytes ":"))

  whole : drop p s ≡ 13 ∷ 10 ∷ (name ++ 58 ∷ after)
  unfolding name after
  whole = starts_split (drop p s) (prefix r) starts ∙ ap (λ (l : List ℕ). 13 ∷ 10 ∷ l) (append_assoc name (bytes ":") after)

  after-crlf : drop (p + 2) s ≡ name ++ 58 ∷ after
  after-crlf = sym (drop-drop 2 p s) ∙ rw whole

  at_colon : drop place_of_colon s ≡ 58 ∷ after
  unfolding place_of_colon
  at_colon = sym (drop-drop (length name) (p + 2) s) ∙ rw after-crlf (drop-append_seam name (58 ∷ after))

  begins : p + length (prefix r) ≡ place_of_colon + 1
  unfolding place_of_colon
  begins = omega (arith, prefix-length)

  total : length s ≡ place_of_colon + 1 + length after
  total = omega (arith, ap length at_colon, length-drop place_of_colon s)

  row-fields : (q : ℕ) (t : List ℕ) → read_fields r q t ≡ take_kinds 1 (plain.first ∷ plain.others) (fields_up_to (length plain.others) q t)
  unfolding read_fields
  row-fields q t = let l : length (plain.first ∷ plain.others) - 1 ≡ length plain.others = omega arith in rw (plain.kinds, l)

  -- the marker, which is the first byte 01, at the place k of what follows the colon
  module _ (k : ℕ) (ek : first_of marker after ≡ k) (lk : k < length after) where
    rest : List ℕ
    rest = drop (suc k) after

    split : drop place_of_colon s ≡ 58 ∷ (take k after ++ 1 ∷ rest)
    unfolding rest
    split =
        let d : drop k after ≡ 1 ∷ drop (suc k) after = rw ek at (first_there 1 after (rw ek lk)) in
        at_colon ∙ ap (λ (l : List ℕ). 58 ∷ l) (sym (rw (← d) (take-append-drop k after)))

    -- n data bytes
    module _ (n : ℕ) (ln : k + 1 + 2 + n ≤ length after) where
      past : ℕ
      past = place_of_colon + 1 + k + 1 + 2 + n

      front_length : length (take k after) ≡ k
      front_length = length-take-le k after (omega arith)

      room : length s - past ≤ length rest
      unfolding past rest
      room = omega (arith, total, length-drop (suc k) after)

      lacks : Lacks 1 (take k after)
      lacks = rw ek at (lacks_before 1 after)

      fields :
          IfGood (Walked s rest (length s - past) (place_of_colon + 1 + k) room 0 (kinds_of r) place_of_colon 58)
          (read_fields r (place_of_colon + 1) (take k after))
      fields =
          rw (row-fields (place_of_colon + 1) (take k after), plain.kinds)
          (marked-walk s rest (length s - past) (place_of_colon + 1 + k) room 0 plain.first plain.others place_of_colon (take k after) 58 split
          lacks (rw front_length))

      row-walk : (o : OrRefused Read)
          → IfGood (Walked s rest (length s - past) (place_of_colon + 1 + k) room 0 (kinds_of r) place_of_colon 58) o
          → IfGood (BinaryWalk s p) (with_data r o (good (data_at (place_of_colon + 1 + k + 1 + 2) n)))
      unfolding past place_of_colon
      row-walk (good (values vs fs)) w = record {
        named = length name;
        marked = place_of_colon + 1 + k;
        size = n;
        vs = vs;
        begins = rw whole;
        span = up_to_stop 58 (length s - past) (p + 2) s name after after-crlf (omega (arith, total)) (unfold name in plain.name);
        fields = w;
        answer = refl;
        ends = refl;
        room = omega (arith, total);
      }
      row-walk (refused e) w = tt

  no-data : (o : OrRefused Read) (e : Refusal) → IfGood (BinaryWalk s p) (with_data r o (refused e))
  no-data (good (values vs fs)) e = tt
  no-data (refused d) e = tt

  body-walk : IfGood (BinaryWalk s p) (read_body r (p + length (prefix r)) (drop (length (prefix r)) (drop p s)))
  unfolding read_body find_marker read_data after
  body-walk = rw begins (go (ltb k (length after)) refl (utf8 (take k after)))
    where
      k : ℕ
      k = first_of marker after

      t : List ℕ
      t = drop (k + 1) after

      q : ℕ
      q = place_of_colon + 1

      with_data_lem : k < length after → (c : Bool) → leb 2 (length t) ≡ c → (d : Bool) → leb (announced t) (length t - 2) ≡ d
          → IfGood (BinaryWalk s p)
          (with_data r (read_fields r q (take k after))
          (cond c (cond d (good (data_at (q + k + 1 + 2) (announced t))) (refused (no 12))) (refused (no 12))))
      with_data_lem l true ec true ed =
          let two = leb-true 2 (length t) ec in
          let all = leb-true (announced t) (length t - 2) ed in
          let n : k + 1 + 2 + announced t ≤ length after = omega (arith, length-drop (k + 1) after) in
          row-walk k refl l (announced t) n (read_fields r q (take k after)) (fields k refl l (announced t) n)
      with_data_lem l true ec false ed = no-data (read_fields r q (take k after)) (no 12)
      with_data_lem l false ec d ed = no-data (read_fields r q (take k after)) (no 12)

      go : (a : Bool) → ltb k (length after) ≡ a → (b : Bool)
          → IfGood (BinaryWalk s p) (read_marked r q after (cond a (cond b (good k) (refused (no 11))) (refused (no 12))))
      go true ea true = with_data_lem (ltb-true k (length after) ea) (leb 2 (length t)) refl (leb (announced t) (length t - 2)) refl
      go true ea false = tt
      go false ea b = tt

abbrev EachPlain : List Row → Type 0
EachPlain [] = Unit {0}
EachPlain (r ∷ rows) = Plain r × EachPlain rows

abbrev TriedWalk : List ℕ → ℕ → Tried → Type 0
TriedWalk s p not_binary = Unit {0}
TriedWalk s p (tried a) = IfGood (BinaryWalk s p) a

rows-walk : (s : List ℕ) (p : ℕ) (rows : List Row) → EachPlain rows → TriedWalk s p (try_rows rows p (drop p s))
unfolding try_rows
rows-walk s p [] h = tt
rows-walk s p (r ∷ rows) h =
    by_test (TriedWalk s p) (starts_with (drop p s) (prefix r)) (λ e. body-walk s p r h.0 e) (λ e. rows-walk s p rows h.1)

plain-table : EachPlain binary_table
unfolding binary_table first_of starts_with
plain-table = (
  record { first = bits 8; others = []; kinds = refl; name = refl },
  (record { first = bits 8; others = text ∷ bits 16 ∷ []; kinds = refl; name = refl }, tt),
)

pub binary-walk : (s : List ℕ) (p : ℕ) (e : ReadEvent) → try_rows binary_table p (drop p s) ≡ tried (good e) → BinaryWalk s p e
binary-walk s p e f = rw f at (rows-walk s p binary_table plain-table)
