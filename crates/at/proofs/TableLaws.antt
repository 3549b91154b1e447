-- Laws of a table in bytes: where a row stands in it, and that the row found there is the one that a search of the table finds.
use Prim.Native.Nat.{ℕ, zero, suc, ◌+◌, ◌*◌, ◌≤◌, ◌<◌}
use mathlib.Core.Path.{◌≡◌, refl, sym, ap, ◌∙◌}
use mathlib.Core.List.{List, [], ◌∷◌, ◌++◌, append_assoc}
use mathlib.Core.Bool.{true, ◌&&◌}
use native.Mathlib.Nat.{le_of_suc-le-suc, not-suc-le-zero}
use native.Mathlib.Omega.{arith}
use borrow.Author.Tests.{eqb-false, leb-true}
use lib.Dec.{leb}
use lib.ListN.{length, get_or, take, drop, length-append, get_or-eq_default}
use lib.Seq.{drop-drop, drop-nil, get_or-drop, take_at, drop_at, take-take, take-append-le, take-append_seam, length-take-le}
use Rattle.std.specs.Prelude.{Ok, Err}
use Rattle.text.specs.Bytes.{bytes, same, part}
use Rattle.text.specs.Field.{Field as Part}
use Rattle.text.proofs.Bools.{and_left, and_right}
use Rattle.at.specs.Event.{Row, name_of, kinds_of as row_kinds, Read, values, with_values, take_kinds, read_row}
use Rattle.at.specs.Refusal.{no, OrRefused, good, refused, refusal_of}
use Rattle.at.specs.Table.{letters_of, filled, spelled_row, spelled, name_at, letters_at}
use Rattle.at.specs.Parts.{row_no}
use Rattle.at.specs.TableSteps.{roomy, Tabled}
use Rattle.at.specs.Steps.{kinds_in, Legible, letters_in, values_of, Stop, Took, outcome_by, read_found}
use Rattle.at.specs.declared.field.Field.{Field}

-- a text that is filled up
filled-length : (n : ℕ) (s : List ℕ) → n ≤ 11 → length (filled n s) ≡ n
filled-length n s h = length-take-le n (s ++ bytes "           ") (simp length-append (omega arith))

filled_front : (n : ℕ) (s : List ℕ) → length s ≤ n → take (length s) (filled n s) ≡ s
filled_front n s h = take-take (length s) n (s ++ bytes "           ") h ∙ take-append_seam s (bytes "           ")

-- twenty bytes a row
row-length : (r : Row) → length (spelled_row r) ≡ 20
row-length r =
    let n = filled-length 11 (name_of r) (omega arith) in
    let l = filled-length 7 (letters_of r) (omega arith) in
    omega (arith, length-append (filled 11 (name_of r)) (filled 7 (letters_of r)))

table-length : (rows : List Row) → length (spelled rows) ≡ length rows * 20
unfolding spelled
table-length [] = refl
table-length (r ∷ rs) = omega (arith, length-append (spelled_row r) (spelled rs), row-length r, table-length rs)

pub sized : (rows : List Row) (s : List ℕ) → Tabled rows s → length s ≡ length rows * 20
sized rows s t = rw t.spells (table-length rows)

rest-spelled : (rows : List Row) (i : ℕ) → drop (i * 20) (spelled rows) ≡ spelled (drop i rows)
unfolding spelled
rest-spelled rows zero = refl
rest-spelled [] (suc i) = drop-nil (suc i * 20)
rest-spelled (r ∷ rs) (suc i) =
    let e : suc i * 20 ≡ 20 + i * 20 = omega arith in
    rw (e, ← drop-drop (i * 20) 20 (spelled_row r ++ spelled rs), drop_at (spelled_row r) (spelled rs) 20 (row-length r)) (rest-spelled rs i)

-- the row with a number, and the rows from it on
pub no_row : (rows : List Row) (i : ℕ) → length rows ≤ i → row_no rows i ≡ refused (no 16)
unfolding row_no
no_row [] i h = refl
no_row (r ∷ rs) zero h = absurd (not-suc-le-zero h)
no_row (r ∷ rs) (suc i) h = no_row rs i (le_of_suc-le-suc h)

pub row_listed : (rows : List Row) (i : ℕ) → i < length rows → (r : Row) × (row_no rows i ≡ good r) × (drop i rows ≡ r ∷ drop (suc i) rows)
unfolding row_no
row_listed [] i h = absurd (not-suc-le-zero h)
row_listed (r ∷ rs) zero h = (r, refl, refl)
row_listed (r ∷ rs) (suc i) h = row_listed rs i (le_of_suc-le-suc h)

pub row_inside : (rows : List Row) (i : ℕ) (r : Row) → row_no rows i ≡ good r → i < length rows
unfolding row_no
row_inside [] i r e = let z : ◌≡◌ {A = ℕ} 0 1 = cc in absurd (eqb-false 0 1 refl z)
row_inside (q ∷ rs) zero r e = omega arith
row_inside (q ∷ rs) (suc i) r e = omega (arith, row_inside rs i r e)

-- a number from k on that is none of the next n, as the last arm of a `match` has it, is k + n or more
abbrev pub NoneOf : ℕ → ℕ → ℕ → Type 0
NoneOf i k zero = Unit
NoneOf i k (suc n) = NoneOf i k n × (i ≡ k + n → ⊥)

pub none_of : (i k n : ℕ) → k ≤ i → NoneOf i k n → k + n ≤ i
none_of i k zero h m = omega arith
none_of i k (suc n) h m = let g : k + n ≤ i = none_of i k n h m.0 in let f : i ≡ k + n → ⊥ = m.1 in omega arith

-- what stands in a table in bytes for the row r with the number i
pub record Stands (s : List ℕ) (i : ℕ) (r : Row) : Type 0 where
  pub fits : i * 20 + 20 ≤ length s
  pub name_length : get_or s (i * 20) 0 ≡ length (name_of r)
  pub letter_count : get_or s (i * 20 + 1) 0 ≡ length (letters_of r)
  pub name_room : length (name_of r) ≤ 11
  pub letter_room : length (letters_of r) ≤ 7
  pub name : part s (i * 20 + 2) (length (name_of r)) ≡ name_of r
  pub letters : take 7 (drop (i * 20 + 13) s) ≡ filled 7 (letters_of r)

pub rooms : (rows : List Row) (i : ℕ) (r : Row) → roomy rows ≡ true → row_no rows i ≡ good r → (length (name_of r) ≤ 11) × (length (letters_of r) ≤ 7)
unfolding row_no roomy
rooms [] i r t e = let z : ◌≡◌ {A = ℕ} 0 1 = cc in absurd (eqb-false 0 1 refl z)
rooms (q ∷ rs) zero r t e =
    let f : q ≡ r = cc in
    let both = and_left (leb (length (name_of q)) 11 && leb (length (letters_of q)) 7) (roomy rs) t in
    let fits : (length (name_of q) ≤ 11) × (length (letters_of q) ≤ 7) = (
      leb-true (length (name_of q)) 11 (and_left (leb (length (name_of q)) 11) (leb (length (letters_of q)) 7) both),
      leb-true (length (letters_of q)) 7 (and_right (leb (length (name_of q)) 11) (leb (length (letters_of q)) 7) both),
    ) in
    rw f at fits
rooms (q ∷ rs) (suc i) r t e = rooms rs i r (and_right (leb (length (name_of q)) 11 && leb (length (letters_of q)) 7) (roomy rs) t) e

module _ (s : List ℕ) (i : ℕ) (r : Row) (t : List ℕ) (e : drop (i * 20) s ≡ spelled_row r ++ t) where
  name_on : drop (i * 20 + 2) s ≡ filled 11 (name_of r) ++ filled 7 (letters_of r) ++ t
  name_on = sym (drop-drop 2 (i * 20) s) ∙ ap (drop 2) e

  letters_on : drop (i * 20 + 13) s ≡ filled 7 (letters_of r) ++ t
  letters_on =
      sym (drop-drop 13 (i * 20) s) ∙ ap (drop 13) e
      ∙ ap (drop 11) (append_assoc (filled 11 (name_of r)) (filled 7 (letters_of r)) t)
      ∙ drop_at (filled 11 (name_of r)) (filled 7 (letters_of r) ++ t) 11 (filled-length 11 (name_of r) (omega arith))

  first_two : (k : ℕ) → get_or s (i * 20 + k) 0 ≡ get_or (spelled_row r ++ t) k 0
  first_two k = sym (get_or-drop (i * 20) s k 0) ∙ ap (λ (l : List ℕ). get_or l k 0) e

pub stands : (rows : List Row) (s : List ℕ) (i : ℕ) → Tabled rows s → i < length rows → (r : Row) × (row_no rows i ≡ good r) × (drop i rows ≡ r ∷ drop (suc i) rows) × Stands s i r
unfolding spelled part
stands rows s i t h =
    let q = row_listed rows i h in
    let r = q.0 in
    let rest = spelled (drop (suc i) rows) in
    let room = rooms rows i r t.rooms q.1 in
    let e : drop (i * 20) s ≡ spelled_row r ++ rest = rw (t.spells, rest-spelled rows i, q.2) in
    let l = sized rows s t in
    let z : i * 20 + 0 ≡ i * 20 = omega arith in
    let n : length (name_of r) ≤ length (filled 11 (name_of r)) = omega (arith, filled-length 11 (name_of r) (omega arith), room.0) in
    let m : length (name_of r) ≤ length (filled 11 (name_of r) ++ filled 7 (letters_of r)) = omega (arith, length-append (filled 11 (name_of r)) (filled 7 (letters_of r)), n) in (
      r,
      q.1,
      q.2,
      record {
        fits = omega arith;
        name_length = rw z at (first_two s i r rest e 0);
        letter_count = first_two s i r rest e 1;
        name_room = room.0;
        letter_room = room.1;
        name = rw (name_on s i r rest e, take-append-le (length (name_of r)) (filled 11 (name_of r) ++ filled 7 (letters_of r)) rest m, take-append-le (length (name_of r)) (filled 11 (name_of r)) (filled 7 (letters_of r)) n) (filled_front 11 (name_of r) room.0);
        letters = rw (letters_on s i r rest e) (take_at (filled 7 (letters_of r)) rest 7 (filled-length 7 (letters_of r) (omega arith)));
      },
    )

-- the letters of a row that stands in a table
pub letters_taken : (r : Row) → length (letters_of r) ≤ 7 → take (length (letters_of r)) (filled 7 (letters_of r)) ≡ letters_of r
letters_taken r h = filled_front 7 (letters_of r) h

-- the name and the letters that are handed out are the row's
pub row_texts : (rows : List Row) (s : List ℕ) (i : ℕ) → Tabled rows s → i < length rows → (r : Row) × (row_no rows i ≡ good r) × (name_at s i ≡ name_of r) × (letters_at s i ≡ letters_of r)
unfolding part
row_texts rows s i t h =
    let q = stands rows s i t h in
    let r = q.0 in
    let st = q.3 in
    let seven = sym (take-take (length (letters_of r)) 7 (drop (i * 20 + 13) s) st.letter_room) in
    (r, q.1, rw st.name_length st.name, rw (st.letter_count, seven, st.letters) (letters_taken r st.letter_room))

-- the letters of a row, by its number: they are few
pub few_letters : (rows : List Row) (row : ℕ) → roomy rows ≡ true → row < length rows → length (letters_in (row_no rows row)) ≤ 7
few_letters rows row t h =
    let q = row_listed rows row h in
    rw q.1 (rooms rows row q.0 t q.1).1

-- a name that is held against the row's
pub held : (s name : List ℕ) (i : ℕ) (r : Row) (at len : ℕ) → Stands s i r → at ≡ i * 20 → len ≡ length (name_of r) → same name (part s (at + 2) len) ≡ same name (name_of r)
held s name i r at len st a l = rw (a, l, st.name)

-- past the end nothing is announced
pub none_past : (s : List ℕ) (k p : ℕ) → length s ≤ k → part s 0 0 ≡ part s p (get_or s k 0)
unfolding part
none_past s k p h = rw (get_or-eq_default s 0 {n = k} h)

pub cons_inj : {A : Type 0} {x y : A} {xs ys : List A} → x ∷ xs ≡ y ∷ ys → (x ≡ y) × (xs ≡ ys)
cons_inj e = (cc, cc)

pub legible-row : (rows : List Row) (i : ℕ) (r : Row) → Legible rows → row_no rows i ≡ good r → kinds_in (letters_of r) ≡ row_kinds r
unfolding row_no
legible-row [] i r l e = let z : ◌≡◌ {A = ℕ} 0 1 = cc in absurd (eqb-false 0 1 refl z)
legible-row (q ∷ rs) zero r l e = let f : q ≡ r = cc in rw f at (cons_inj l).0
legible-row (q ∷ rs) (suc i) r l e = legible-row rs i r (cons_inj l).1 e

-- the event of a row, from what was taken for it
took-outcome : (rows : List Row) (row : ℕ) (q : Row) (r : OrRefused Read) (fs : List Field) (p : Stop) → row_no rows row ≡ good q → Took (row_kinds q) r fs p
    → outcome_by rows row fs p ≡ with_values q r
took-outcome rows row q r fs p e k = go p r k
  where
    go : (p : Stop) (r : OrRefused Read) → Took (row_kinds q) r fs p → outcome_by rows row fs p ≡ with_values q r
    go (Ok all) (good (values vs gs)) s = let v : values_of (row_kinds q) 0 fs ≡ vs = cc in rw (e, v)
    go (Ok all) (refused n) s = let z : ◌≡◌ {A = ℕ} 0 1 = cc in absurd (eqb-false 0 1 refl z)
    go (Err x) (good (values vs gs)) s = let z : ◌≡◌ {A = ℕ} 0 1 = cc in absurd (eqb-false 0 1 refl z)
    go (Err x) (refused n) s = let m : refusal_of x ≡ n = cc in rw m

-- the fields taken by the letters of a row are those that the definition reads
pub outcome_read : (rows : List Row) (row : ℕ) (cs : List ℕ) (gs : List Part) (fs : List Field) (p : Stop) → row < length rows → Legible rows
    → cs ≡ letters_in (row_no rows row) → Took (kinds_in cs) (take_kinds 1 (kinds_in cs) gs) fs p → outcome_by rows row fs p ≡ read_found (row_no rows row) gs
unfolding read_row
outcome_read rows row cs gs fs p h l m took =
    let q = row_listed rows row h in
    let c : kinds_in cs ≡ row_kinds q.0 = ap kinds_in (m ∙ ap letters_in q.1) ∙ legible-row rows row q.0 l q.1 in
    took-outcome rows row q.0 (take_kinds 1 (row_kinds q.0) gs) fs p q.1 (rw c at took) ∙ rw q.1
