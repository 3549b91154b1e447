-- How long the values of an event are, by the bytes that the event takes up: of a line of either radio, and of a binary event.
use Prim.Native.Nat.{ℕ, ◌+◌, ◌*◌, ◌-◌, ◌≤◌}
use mathlib.Core.Path.{◌≡◌, refl, ap, ◌∙◌}
use mathlib.Core.List.{List, [], ◌∷◌, ◌++◌, append-nil}
use mathlib.Core.Bool.{Bool, true, false, cond}
use native.Mathlib.Omega.{arith}
use lib.Dec.{leb}
use lib.ListN.{length, take, drop, length-append, length-take, length-drop}
use borrow.Author.Tests.{leb-true}
use Rattle.text.specs.Bytes.{bytes, starts_with}
use Rattle.text.proofs.Bools.{and_left, and_right}
use Rattle.at.specs.Refusal.{OrRefused, good, refused, no}
use Rattle.at.specs.Event.{Row, name_of, kinds_of, Value, place, Event, event, event_to, up_to, Read, values, with_values, take_kinds, read_row}
use Rattle.at.specs.Line.{before, Radio, Body, body, framed, rows_named, fields_after, read_text, read_framed, read_line}
use Rattle.at.specs.Binary.{fields_up_to, read_fields, find_marker, announced, Data, data_at, read_data, with_data, read_marked, read_body, tried, prefix, try_rows}
use Rattle.at.proofs.RowsLaws.{Each, each_named, read_by-one}
use Rattle.render.specs.Words.{values_line}
use Rattle.render.proofs.WordLengths.{data-none, data-place}
use Rattle.render.proofs.FieldWeights.{weight_up_to, weight_after, extras, values-within}
use Rattle.render.proofs.RowTests.{rows_pass}

-- an event of the row r that takes up the bytes from p to q: it has 4 bytes and the name, and its values are at most twice as long as the rest
pub record Short (src : List ℕ) (p : ℕ) (r : Row) (vs : List Value) (q : ℕ) : Type 0 where
  pub named : p + 4 + length (name_of r) ≤ q
  pub short : length (values_line (kinds_of r) src vs) + 2 * (p + 4 + length (name_of r)) ≤ extras (kinds_of r) + 2 * q

-- the event of a radio takes up 4 bytes and the text that is kept, or more, and no more than the line
abbrev pub Spans : Radio → Type 0
Spans radio = (p : ℕ) (line : List ℕ) (q : ℕ) (t : List ℕ) → framed p line ≡ good (body q t) → (4 + length (radio.kept t) ≤ radio.spans line) × (radio.spans line ≤ length line)

-- data that were read stand after the two length bytes, and end in the text
data_read : (p : ℕ) (t : List ℕ) (a n : ℕ) → read_data p t ≡ good (data_at a n) → (a ≡ p + 2) × (2 + n ≤ length t)
unfolding read_data
data_read p t a n e = go (leb 2 (length t)) refl (leb (announced t) (length t - 2)) refl e
  where
    go : (k : Bool) → leb 2 (length t) ≡ k → (l : Bool) → leb (announced t) (length t - 2) ≡ l
        → cond k (cond l (good (data_at (p + 2) (announced t))) (refused (no 12))) (refused (no 12)) ≡ good (data_at a n) → (a ≡ p + 2) × (2 + n ≤ length t)
    go true k true l e =
        let x : p + 2 ≡ a = cc in
        let y : announced t ≡ n = cc in
        (omega arith, omega (arith, y, leb-true 2 (length t) k, leb-true (announced t) (length t - 2) l))
    go true k false l e = let z : ◌≡◌ {A = ℕ} 0 1 = cc in absurd (omega arith)
    go false k l m e = let z : ◌≡◌ {A = ℕ} 0 1 = cc in absurd (omega arith)

each_passes : (test : Row → Bool) (rows : List Row) → rows_pass test rows ≡ true → Each (λ r. test r ≡ true) rows
unfolding rows_pass
each_passes test [] t = tt
each_passes test (r ∷ rs) t = (and_left (test r) (rows_pass test rs) t, each_passes test rs (and_right (test r) (rows_pass test rs) t))

module _ (test : Row → Bool) (src : List ℕ) (r : Row) (vs : List Value) where
  -- a text that is read, where the event takes up 4 bytes more than the text: one of the rows of its name reads it, which passes the test that every
  -- row passes
  text-short : (rows : List Row) (x : ℕ) (t : List ℕ) (p q : ℕ) → rows_pass test rows ≡ true → read_text rows x t ≡ good (event r vs) → p + 4 + length t ≤ q
      → (test r ≡ true) × Short src p r vs q
  unfolding read_text read_row
  text-short rows x t p q a e h =
      let name = before (bytes ":") t in
      let b = read_by-one (λ b. (test b ≡ true) × (name ≡ name_of b)) (fields_after x t) (event r vs) (rows_named rows name) (each_named (λ b. test b ≡ true) rows name (each_passes test rows a)) e in
      read b.0 b.1 (take_kinds 1 (kinds_of b.0) (fields_after x t)) refl b.2
    where
      read : (b : Row) → (test b ≡ true) × (before (bytes ":") t ≡ name_of b) → (o : OrRefused Read) → take_kinds 1 (kinds_of b) (fields_after x t) ≡ o → with_values b o ≡ good (event r vs)
          → (test r ≡ true) × Short src p r vs q
      read b k (good (values us l)) o e =
          let f : b ≡ r = cc in
          let g : us ≡ vs = cc in
          let n : (test r ≡ true) × (before (bytes ":") t ≡ name_of r) = rw f at k in
          let v : take_kinds 1 (kinds_of r) (fields_after x t) ≡ good (values vs l) = rw (f, g) at o in
          let w = rw (append-nil vs) at (values-within 1 (kinds_of r) (fields_after x t) src vs [] l v) in
          let u : length (before (bytes ":") t) ≡ length (name_of r) = ap length n.1 in
          let m = weight_after x t in
          (n.0, record { named = omega arith; short = omega (arith, w, data-none src) })
      read b k (refused n) o e = let z : ◌≡◌ {A = ℕ} 0 1 = cc in absurd (omega arith)

  -- a line
  pub line_short : (radio : Radio) → rows_pass test radio.rows ≡ true → Spans radio → (p : ℕ) (line : List ℕ) (q : ℕ) → read_line radio p line ≡ good (event_to (event r vs) q)
      → (test r ≡ true) × Short src p r vs q × (q ≤ p + length line)
  unfolding read_line
  line_short radio a h p line q e = go (framed p line) refl e
    where
      read : (x : ℕ) (t : List ℕ) → framed p line ≡ good (body x t) → (o : OrRefused Event) → read_text radio.rows x (radio.kept t) ≡ o → up_to (p + radio.spans line) o ≡ good (event_to (event r vs) q)
          → (test r ≡ true) × Short src p r vs q × (q ≤ p + length line)
      read x t f (good b) o e =
          let g : good b ≡ good (event r vs) = cc in
          let z : p + radio.spans line ≡ q = cc in
          let k = h p line x t f in
          let c = text-short radio.rows x (radio.kept t) p q a (o ∙ g) (omega (arith, z, k.0)) in
          (c.0, c.1, omega (arith, z, k.1))
      read x t f (refused n) o e = let z : ◌≡◌ {A = ℕ} 0 1 = cc in absurd (omega arith)

      go : (f : OrRefused Body) → framed p line ≡ f → up_to (p + radio.spans line) (read_framed radio f) ≡ good (event_to (event r vs) q) → (test r ≡ true) × Short src p r vs q × (q ≤ p + length line)
      go (good (body x t)) f e = read x t f (read_text radio.rows x (radio.kept t)) refl e
      go (refused n) f e = let z : ◌≡◌ {A = ℕ} 0 1 = cc in absurd (omega arith)

  -- what follows the colon of a binary event: k bytes of fields, the marker, and the data, whose value comes after the fields' values
  data-short : (a : Row) (p k : ℕ) (u t : List ℕ) (f : OrRefused Read) (d : OrRefused Data) (q : ℕ) → length u ≤ k → read_fields a p u ≡ f → read_data (p + k + 1) t ≡ d → with_data a f d ≡ good (event_to (event r vs) q)
      → (a ≡ r) × (p + 3 ≤ q) × (length (values_line (kinds_of r) src vs) + 2 * p + 2 ≤ extras (kinds_of r) + 2 * q) × (2 ≤ length t) × (q ≤ p + k + 1 + length t)
  unfolding read_fields
  data-short a p k u t (good (values us l)) (good (data_at x n)) q h f d e =
      let b : a ≡ r = cc in
      let g : us ++ place x n ∷ [] ≡ vs = cc in
      let z : x + n ≡ q = cc in
      let v : take_kinds 1 (kinds_of r) (fields_up_to (length (kinds_of r) - 1) p u) ≡ good (values us l) = rw b at f in
      let w = rw g at (values-within 1 (kinds_of r) (fields_up_to (length (kinds_of r) - 1) p u) src us (place x n ∷ []) l v) in
      let m = weight_up_to (length (kinds_of r) - 1) p u in
      let i = data_read (p + k + 1) t x n d in
      (b, omega (arith, z, i), omega (arith, w, m, h, z, i, data-place src x n [], data-none src), omega (arith, i), omega (arith, z, i))
  data-short a p k u t (good (values us l)) (refused n) q h f d e = let z : ◌≡◌ {A = ℕ} 0 1 = cc in absurd (omega arith)
  data-short a p k u t (refused n) d q h f g e = let z : ◌≡◌ {A = ℕ} 0 1 = cc in absurd (omega arith)

  -- a binary event
  pub binary-short : (rows : List Row) → rows_pass test rows ≡ true → (p : ℕ) (s : List ℕ) (q : ℕ) → try_rows rows p s ≡ tried (good (event_to (event r vs) q))
      → (test r ≡ true) × Short src p r vs q × (q ≤ p + length s)
  unfolding try_rows rows_pass read_body
  binary-short [] a p s q e = let z : ◌≡◌ {A = ℕ} 0 1 = cc in absurd (omega arith)
  binary-short (b ∷ rs) a p s q e = go (starts_with s (prefix b)) e (binary-short rs (and_right (test b) (rows_pass test rs) a) p s q)
    where
      marked : (m : OrRefused ℕ) → read_marked b (p + length (prefix b)) (drop (length (prefix b)) s) m ≡ good (event_to (event r vs) q) → (test r ≡ true) × Short src p r vs q × (q ≤ p + length s)
      marked (good k) e =
          let x = p + length (prefix b) in
          let t = drop (length (prefix b)) s in
          let c = data-short b x k (take k t) (drop (k + 1) t) (read_fields b x (take k t)) (read_data (x + k + 1) (drop (k + 1) t)) q (omega (arith, length-take k t)) refl refl e in
          let f : b ≡ r = c.0 in
          let l : length (prefix b) ≡ 3 + length (name_of r) = omega (arith, length-append (name_of b) (bytes ":"), ap (λ (y : Row). length (name_of y)) f) in
          let o = and_left (test b) (rows_pass test rs) a in (
            rw f at o,
            record { named = omega (arith, l, c.1); short = omega (arith, l, c.2) },
            omega (arith, c.3, c.4, length-drop (k + 1) t, length-drop (length (prefix b)) s),
          )
      marked (refused n) e = let z : ◌≡◌ {A = ℕ} 0 1 = cc in absurd (omega arith)

      go : (k : Bool) → cond k (tried (read_body b (p + length (prefix b)) (drop (length (prefix b)) s))) (try_rows rs p s) ≡ tried (good (event_to (event r vs) q))
          → (try_rows rs p s ≡ tried (good (event_to (event r vs) q)) → (test r ≡ true) × Short src p r vs q × (q ≤ p + length s)) → (test r ≡ true) × Short src p r vs q × (q ≤ p + length s)
      go true e ih = let f : read_body b (p + length (prefix b)) (drop (length (prefix b)) s) ≡ good (event_to (event r vs) q) = cc in marked (find_marker (drop (length (prefix b)) s)) f
      go false e ih = ih e
