-- An accepted event line as a walk over its fields: where each stands, which byte stands before it, and what it was read as.
use Prim.Native.Nat.{ℕ, suc, ◌+◌, ◌-◌, ◌≤◌}
use mathlib.Core.Path.{◌≡◌, refl, sym, ap, ◌∙◌}
use mathlib.Core.List.{List, [], ◌∷◌, ◌++◌, append_assoc}
use mathlib.Core.Bool.{Bool, true, false, cond}
use native.Mathlib.Omega.{arith}
use lib.Dec.{eqb, leb, ltb}
use lib.ListN.{length, take, drop, length-append, length-drop, take-append-drop}
use lib.Seq.{drop-drop, take_all, take_at, take-append-le, drop-append-le, length-take-le}
use borrow.Author.Tests.{leb-true, leb-false, ltb-true}
use Rattle.text.specs.Bytes.{bytes, part}
use Rattle.text.specs.Find.{crlf, first_of}
use Rattle.text.specs.Field.{Field, fields_from}
use Rattle.text.proofs.Bools.{either}
use Rattle.text.proofs.FindLaws.{first_le}
use Rattle.text.proofs.FieldLaws.{comma, fields_comma, fields_last}
use Rattle.at.specs.Refusal.{number_of, OrRefused, good, refused}
use Rattle.at.specs.Event.{Kind, Row, kinds_of, Value, Event, event, read_field, and_rest, take_kind, Read, values, prepend, and_then, take_kinds, with_values, read_row}
use Rattle.at.specs.Line.{Radio, before, ends_in, Body, body, framed, rows_named, fields_after, or_next, by_type, by_name, read_text, read_framed}
use Rattle.at.specs.Inside.{IfGood}
use Rattle.at.specs.W26.{w26}
use Rattle.at.specs.W36.{w36}
use Rattle.at.proofs.EndLaws.{ends_long, framed-whole-only, first-inside, before-first}
use Rattle.edm.specs.Frame.{payload}
use Rattle.checks.specs.Slot.{span_of}
use Rattle.checks.specs.declared.slot.Span.TheVariants.{UpTo}
use Rattle.checks.proofs.FirstLaws.{first_there}

-- a field of n bytes, the field suc j, of a kind: in a text that ends m bytes before s does, the byte x stands before it at the place c of s, it goes
-- up to the next byte b of that text, and its bytes are read as v
pub record FieldAt (s : List ℕ) (b m j : ℕ) (k : Kind) (c x n : ℕ) (v : Value) : Type 0 where
  pub room : c + 1 + m ≤ length s
  pub mark : take 1 (drop c s) ≡ x ∷ []
  pub span : span_of (UpTo b m) (drop (c + 1) s) ≡ n
  pub read : read_field (suc j) k (c + 1) (part s (c + 1) n) ≡ good v

-- such fields one after the other, each up to the next comma, of which the others have a comma before them
abbrev pub FieldWalk : List ℕ → ℕ → ℕ → List Kind → ℕ → ℕ → List Value → Type 0
FieldWalk s m j ks c x [] = Unit {0}
FieldWalk s m j [] c x (v ∷ vs) = ⊥
FieldWalk s m j (k ∷ ks) c x (v ∷ vs) = (n : ℕ) × FieldAt s 44 m j k c x n v × FieldWalk s m (suc j) ks (c + 1 + n) 44 vs

-- a line at the place p: two bytes, a name of n bytes up to the colon, and the fields
pub record NameAt (s : List ℕ) (m p n : ℕ) : Type 0 where
  pub room : p + 2 + m ≤ length s
  pub span : span_of (UpTo 58 m) (drop (p + 2) s) ≡ n

abbrev pub LineWalk : List ℕ → ℕ → ℕ → Event → Type 0
LineWalk s m p (event r vs) = (n : ℕ) × NameAt s m p n × FieldWalk s m 0 (kinds_of r) (p + 2 + n) 58 vs

-- what stands in front of a list's last bytes, and the bytes before the first b of it
front : (u rest : List ℕ) → take (length (u ++ rest) - length rest) (u ++ rest) ≡ u
front u rest = take_at u rest (length (u ++ rest) - length rest) (omega (arith, length-append u rest))

up_to_text : (b : ℕ) (s u rest : List ℕ) (q : ℕ) → drop q s ≡ u ++ rest → span_of (UpTo b (length rest)) (drop q s) ≡ first_of (b ∷ []) u
unfolding span_of
up_to_text b s u rest q e = rw (e, front u rest)

-- The fields of a text of s, which is followed by `rest`
module _ (s rest : List ℕ) where
  abbrev Walked : ℕ → List Kind → ℕ → ℕ → Read → Type 0
  Walked j ks c x (values vs fs) = FieldWalk s (length rest) j ks c x vs

  kinds-walk : (j : ℕ) (ks : List Kind) (c : ℕ) (u : List ℕ) (x : ℕ) → drop c s ≡ x ∷ (u ++ rest)
      → IfGood (Walked j ks c x) (take_kinds (suc j) ks (fields_from (c + 1) u))
  unfolding take_kinds take_kind comma part
  kinds-walk j [] c u x ec = tt
  kinds-walk j (k ∷ ks) c u x ec = go (leb (length u) n) refl (kinds-walk (suc j) ks)
    where
      n : ℕ
      n = first_of (44 ∷ []) u

      on : drop (c + 1) s ≡ u ++ rest
      on = sym (drop-drop 1 c s) ∙ rw ec

      here : (v : Value) → read_field (suc j) k (c + 1) (take n u) ≡ good v → FieldAt s 44 (length rest) j k c x n v
      here v e =
          let b : take n (drop (c + 1) s) ≡ take n u = rw on (take-append-le n u rest (first_le (44 ∷ []) u)) in
          let l : c + 1 + length rest ≤ length s = omega (arith, ap length ec, length-append u rest, length-drop c s) in
          record { room = l; mark = rw ec; span = up_to_text 44 s u rest (c + 1) on; read = rw b e }

      more : (v : Value) (o : OrRefused Read) → read_field (suc j) k (c + 1) (take n u) ≡ good v → IfGood (Walked (suc j) ks (c + 1 + n) 44) o
          → IfGood (Walked j (k ∷ ks) c x) (prepend v o)
      more v (good (values vs fs)) e i = (n, here v e, i)
      more v (refused m) e i = tt

      taken : (b : List ℕ) (fs : List Field) (a : OrRefused Value) → b ≡ take n u → read_field (suc j) k (c + 1) b ≡ a
          → IfGood (Walked (suc j) ks (c + 1 + n) 44) (take_kinds (suc (suc j)) ks fs)
          → IfGood (Walked j (k ∷ ks) c x) (and_then (and_rest a fs) (λ rest. take_kinds (suc (suc j)) ks rest))
      taken b fs (good v) eb e i = more v (take_kinds (suc (suc j)) ks fs) (rw eb at e) i
      taken b fs (refused m) eb e i = tt

      nothing_left : (qs : List Kind) → IfGood (Walked (suc j) qs (c + 1 + n) 44) (take_kinds (suc (suc j)) qs [])
      nothing_left [] = tt
      nothing_left (q ∷ qs) = tt

      go : (t : Bool) → leb (length u) n ≡ t
          → ((d : ℕ) (w : List ℕ) (y : ℕ) → drop d s ≡ y ∷ (w ++ rest)
          → IfGood (Walked (suc j) ks d y) (take_kinds (suc (suc j)) ks (fields_from (d + 1) w)))
          → IfGood (Walked j (k ∷ ks) c x) (and_then (take_kind (suc j) k (fields_from (c + 1) u)) (λ rest. take_kinds (suc (suc j)) ks rest))
      go true t ih =
          let l = leb-true (length u) n t in
          rw (fields_last (c + 1) u l) (taken u [] (read_field (suc j) k (c + 1) u) (sym (take_all n u l)) refl (nothing_left ks))
      go false t ih =
          let l = leb-false (length u) n t in
          let m : n + 1 ≡ suc n = omega arith in
          let d : drop (c + 1 + n) s ≡ 44 ∷ (drop (n + 1) u ++ rest) =
          sym (drop-drop n (c + 1) s) ∙ rw (on, drop-append-le n u rest (omega arith), m, first_there 44 u l) in
          rw (fields_comma (c + 1) u l)
          (taken (take n u) (fields_from (c + 1 + n + 1) (drop (n + 1) u)) (read_field (suc j) k (c + 1) (take n u)) refl refl
          (ih (c + 1 + n) (drop (n + 1) u) 44 d))

  -- no field at all
  none_walk : (ks : List Kind) (c : ℕ) → IfGood (Walked 0 ks c 58) (take_kinds 1 ks [])
  unfolding take_kinds take_kind
  none_walk [] c = tt
  none_walk (k ∷ ks) c = tt

-- A text t of s, followed by `rest`, after the first two bytes of a line at the place p
module _ (s rest t : List ℕ) (p : ℕ) (e : drop (p + 2) s ≡ t ++ rest) (h : p + 2 ≤ length s) where
  colon : ℕ
  colon = first_of (bytes ":") t

  values-walk : (ks : List Kind) → IfGood (Walked s rest 0 ks (p + 2 + colon) 58) (take_kinds 1 ks (fields_after (p + 2) t))
  unfolding fields_after colon
  values-walk ks = go (ltb colon (length t)) refl
    where
      go : (k : Bool) → ltb colon (length t) ≡ k
          → IfGood (Walked s rest 0 ks (p + 2 + colon) 58) (take_kinds 1 ks (cond k (fields_from (p + 2 + colon + 1) (drop (colon + 1) t)) []))
      go true k =
          let l = ltb-true colon (length t) k in
          let m : colon + 1 ≡ suc colon = omega arith in
          let d : drop (p + 2 + colon) s ≡ 58 ∷ (drop (colon + 1) t ++ rest) =
          sym (drop-drop colon (p + 2) s) ∙ rw (e, drop-append-le colon t rest (omega arith), m, first_there 58 t l) in
          kinds-walk s rest 0 ks (p + 2 + colon) (drop (colon + 1) t) 58 d
      go false k = none_walk s rest ks (p + 2 + colon)

  row-walk : (r : Row) → IfGood (LineWalk s (length rest) p) (read_row r (fields_after (p + 2) t))
  unfolding read_row colon
  row-walk r = go (take_kinds 1 (kinds_of r) (fields_after (p + 2) t)) (values-walk (kinds_of r))
    where
      go : (o : OrRefused Read) → IfGood (Walked s rest 0 (kinds_of r) (p + 2 + colon) 58) o → IfGood (LineWalk s (length rest) p) (with_values r o)
      go (good (values vs fs)) c =
          let l : p + 2 + length rest ≤ length s = omega (arith, ap length e, length-append t rest, length-drop (p + 2) s) in
          (colon, record { room = l; span = up_to_text 58 s t rest (p + 2) e }, c)
      go (refused n) c = tt

  by_type_walk : (rows : List Row) → IfGood (LineWalk s (length rest) p) (by_type rows (fields_after (p + 2) t))
  unfolding by_type
  by_type_walk [] = tt
  by_type_walk (r ∷ rows) = go (read_row r (fields_after (p + 2) t)) (row-walk r) (by_type_walk rows)
    where
      go : (o : OrRefused Event) → IfGood (LineWalk s (length rest) p) o → IfGood (LineWalk s (length rest) p) (by_type rows (fields_after (p + 2) t))
          → IfGood (LineWalk s (length rest) p) (or_next o (by_type rows (fields_after (p + 2) t)))
      go (good e) c d = c
      go (refused n) c d = either (IfGood (LineWalk s (length rest) p)) (eqb (number_of n) 13) d tt

  by_name-walk : (rows : List Row) → IfGood (LineWalk s (length rest) p) (by_name rows (fields_after (p + 2) t))
  by_name-walk [] = tt
  by_name-walk (r ∷ rows) = by_type_walk (r ∷ rows)

  text-walk : (rows : List Row) → IfGood (LineWalk s (length rest) p) (read_text rows (p + 2) t)
  unfolding read_text
  text-walk rows = by_name-walk (rows_named rows (before (bytes ":") t))

-- A radio keeps the front of what follows a line's first two bytes, and two bytes after that its event ends
pub record Keeps (radio : Radio) : Type 0 where
  pub end : List ℕ → ℕ
  pub front : (u : List ℕ) → ends_in u crlf ≡ true → radio.kept (take (length u - 2) u) ≡ take (end u) u
  pub inside : (u : List ℕ) → ends_in u crlf ≡ true → end u ≤ length u
  pub after : (line : List ℕ) → ends_in (drop 2 line) crlf ≡ true
      → length (drop (end (drop 2 line)) (drop 2 line)) ≡ length line + 2 - radio.spans line

pub keeps_26 : Keeps w26
keeps_26 = record {
  end = λ u. length u - 2;
  front = λ u e. refl;
  inside = λ u e. omega arith;
  after = λ line e. let u = drop 2 line in omega (arith, ends_long u e, length-drop (length u - 2) u);
}

pub keeps_36 : Keeps w36
keeps_36 = record {
  end = first_of crlf;
  front = λ u e. sym (before-first u e);
  inside = λ u e. omega (arith, first-inside u e);
  after = λ line e. let u = drop 2 line in omega (arith, first-inside u e, length-drop (first_of crlf u) u, length-drop 2 line);
}

-- a line of s at the place p, with `more` after it
module _ (radio : Radio) (k : Keeps radio) (s line more : List ℕ) (p : ℕ) (e : drop p s ≡ line ++ more) where
  rest : List ℕ
  rest = drop (k.end (drop 2 line)) (drop 2 line) ++ more

  module _ (w : ends_in (drop 2 line) crlf ≡ true) where
    long : 4 ≤ length line
    long = omega (arith, ends_long (drop 2 line) w, length-drop 2 line)

    rest-length : length rest ≡ length line + 2 - radio.spans line + length more
    unfolding rest
    rest-length = omega (arith, k.after line w, length-append (drop (k.end (drop 2 line)) (drop 2 line)) more)

    split : drop (p + 2) s ≡ take (k.end (drop 2 line)) (drop 2 line) ++ rest
    unfolding rest
    split =
        let u = drop 2 line in
        sym (drop-drop 2 p s)
        ∙ rw (e, drop-append-le 2 line more (omega (arith, long)))
        (ap (λ (l : List ℕ). l ++ more) (sym (take-append-drop (k.end u) u)) ∙ append_assoc (take (k.end u) u) (drop (k.end u) u) more)

    room : p + 2 ≤ length s
    room = omega (arith, long, ap length e, length-append line more, length-drop p s)

  pub framed-walk : IfGood (LineWalk s (length line + 2 - radio.spans line + length more) p) (read_framed radio (framed p line))
  framed-walk = go (framed p line) refl
    where
      go : (b : OrRefused Body) → framed p line ≡ b → IfGood (LineWalk s (length line + 2 - radio.spans line + length more) p) (read_framed radio b)
      go (good (body q t)) f =
          let w = framed-whole-only p line q t f in
          rw (w.begins, w.between, k.front (drop 2 line) w.ends, ← rest-length w.ends)
          (text-walk s rest (take (k.end (drop 2 line)) (drop 2 line)) p (split w.ends) (room w.ends) radio.rows)
      go (refused n) f = tt

-- the event of a frame: its last byte follows the line
payload-split : (s : List ℕ) → 6 ≤ length s → drop 5 s ≡ payload s ++ drop (length s - 1) s
payload-split s six =
    let l = length-take-le (length s - 1) s (omega arith) in
    ap (drop 5) (sym (take-append-drop (length s - 1) s)) ∙ drop-append-le 5 (take (length s - 1) s) (drop (length s - 1) s) (omega arith)

pub event-walk : (s : List ℕ) → 6 ≤ length s → IfGood (LineWalk s 3 5) (read_framed w26 (framed 5 (payload s)))
event-walk s six =
    let t = payload s in
    let m : length t + 2 - length t + length (drop (length s - 1) s) ≡ 3 = omega (arith, length-drop (length s - 1) s) in
    rw m at (framed-walk w26 keeps_26 s t (drop (length s - 1) s) 5 (payload-split s six))
