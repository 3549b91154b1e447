-- Laws of an event in parts: one value, and that the parts of an event are one thing.
use Prim.Native.Nat.{ℕ, zero, suc, ◌+◌, ◌≤◌, ◌<◌}
use mathlib.Core.Path.{◌≡◌, refl, sym, ap, ◌∙◌}
use mathlib.Core.List.{List, [], ◌∷◌, ◌++◌, map, replicate}
use mathlib.Core.Bool.{Bool, true, ◌&&◌}
use native.Mathlib.Omega.{arith}
use borrow.Author.Tests.{eqb-true, eqb-false}
use lib.Dec.{eqb}
use lib.ListN.{length, get_or, take, drop, set, length-map}
use lib.Seq.{take_all}
use native.Mathlib.Nat.{le_of_suc-le-suc, not-suc-le-zero}
use native.Mathlib.Numerals.{add-one}
use Rattle.text.proofs.Bools.{and_left, and_right}
use Rattle.at.specs.Refusal.{good}
use Rattle.at.specs.Event.{Row, Event, event}
use Rattle.at.specs.Parts.{value_of, values_of, row_no, number_in, with_row, part_of, parts_of, Apart}
use Rattle.at.specs.declared.parts.Value.{Value}
use Rattle.at.specs.declared.parts.Value.TheVariants as value
use Rattle.at.specs.declared.parts.Parts.{Parts}
use Rattle.at.proofs.TableLaws.{row_listed}

-- a value of the code is what it says
pub part_of_value : (v : Value) → part_of (value_of v) ≡ v
part_of_value (value.Number n) = refl
part_of_value (value.Place t) = refl

-- up to seven values, filled up with the number 0, are those of the parts
filled : (vs : List Value) → length vs ≤ 7 → vs ++ drop (length vs) (replicate 7 (value.Number 0)) ≡ (parts_of 0 (map value_of vs)).values
filled [] h = refl
filled (a ∷ []) h = rw (part_of_value a)
filled (a ∷ b ∷ []) h = rw (part_of_value a, part_of_value b)
filled (a ∷ b ∷ c ∷ []) h = rw (part_of_value a, part_of_value b, part_of_value c)
filled (a ∷ b ∷ c ∷ d ∷ []) h = rw (part_of_value a, part_of_value b, part_of_value c, part_of_value d)
filled (a ∷ b ∷ c ∷ d ∷ e ∷ []) h = rw (part_of_value a, part_of_value b, part_of_value c, part_of_value d, part_of_value e)
filled (a ∷ b ∷ c ∷ d ∷ e ∷ f ∷ []) h = rw (part_of_value a, part_of_value b, part_of_value c, part_of_value d, part_of_value e, part_of_value f)
filled (a ∷ b ∷ c ∷ d ∷ e ∷ f ∷ g ∷ []) h =
    rw (part_of_value a, part_of_value b, part_of_value c, part_of_value d, part_of_value e, part_of_value f, part_of_value g)
filled (a ∷ b ∷ c ∷ d ∷ e ∷ f ∷ g ∷ v ∷ vs) h = absurd (omega arith)

pub filled_parts : (row n : ℕ) (vs ws : List Value) → length vs ≡ n → n ≤ 7 → ws ≡ take n vs ++ drop n (replicate 7 (value.Number 0))
    → record { row = row; count = n; values = ws } ≡ parts_of row (map value_of vs)
filled_parts row n vs ws l h e =
    let m : length vs ≤ n = omega (arith, l) in
    rw (e, take_all n vs m, ← l, filled vs (rw l h), length-map)

-- one value more in front of what fills up
pub filled_more : (vs ws us : List Value) (i : ℕ) (d : Value) → i < length vs → i < length us → ws ≡ take i vs ++ drop i us
    → set ws i (get_or vs i d) ≡ take (i + 1) vs ++ drop (i + 1) us
filled_more [] ws us i d h l e = absurd (not-suc-le-zero h)
filled_more (v ∷ vs) ws [] i d h l e = absurd (not-suc-le-zero l)
filled_more (v ∷ vs) ws (u ∷ us) zero d h l e = rw e
filled_more (v ∷ vs) ws (u ∷ us) (suc i) d h l e =
    rw (e, add-one, filled_more vs (take i vs ++ drop i us) us i d (le_of_suc-le-suc h) (le_of_suc-le-suc l) refl, add-one)

-- each row of a table is the first that has its name and its kinds, counted from a number on
unfoldable pub firsts : List Row → ℕ → List Row → Bool
firsts rows i [] = true
firsts rows i (r ∷ rs) = eqb (number_in rows r) i && firsts rows (suc i) rs

numbered : (rows : List Row) (k : ℕ) (rs : List Row) (i : ℕ) (r : Row) → firsts rows k rs ≡ true → row_no rs i ≡ good r → number_in rows r ≡ k + i
unfolding row_no firsts
numbered rows k [] i r t e = let z : ◌≡◌ {A = ℕ} 0 1 = cc in absurd (eqb-false 0 1 refl z)
numbered rows k (q ∷ rs) zero r t e =
    let f : q ≡ r = cc in
    let n = eqb-true (number_in rows q) k (and_left (eqb (number_in rows q) k) (firsts rows (suc k) rs) t) in
    let z : k ≡ k + 0 = omega arith in
    rw f at (n ∙ z)
numbered rows k (q ∷ rs) (suc i) r t e =
    numbered rows (suc k) rs i r (and_right (eqb (number_in rows q) k) (firsts rows (suc k) rs) t) e ∙ omega arith

-- the number of a row of the table is its place
pub row_number : (rows : List Row) → firsts rows 0 rows ≡ true → (i : ℕ) (r : Row) → row_no rows i ≡ good r → number_in rows r ≡ i
row_number rows t i r e = numbered rows 0 rows i r t e ∙ omega arith

-- the row and the values of parts are those of their event
pub taken : (rows : List Row) (e : Event) (p : Parts) → Apart rows e p → (r : Row) × (row_no rows p.row ≡ good r) × (good (event r (values_of p)) ≡ good e)
taken rows e p a =
    let q = row_listed rows p.row a.listed in
    (q.0, q.1, ap (λ h. with_row h (values_of p)) (sym q.1) ∙ a.whole)

pub one_parts : (rows : List Row) → firsts rows 0 rows ≡ true → (e : Event) (p q : Parts) → Apart rows e p → Apart rows e q → p ≡ q
one_parts rows t e p q a b =
    let x = taken rows e p a in
    let y = taken rows e q b in
    let f : good (event x.0 (values_of p)) ≡ good (event y.0 (values_of q)) = x.2 ∙ sym y.2 in
    let r : x.0 ≡ y.0 = cc in
    let v : values_of p ≡ values_of q = cc in
    let i = row_number rows t p.row x.0 x.1 in
    let j = row_number rows t q.row y.0 y.1 in
    let n : number_in rows x.0 ≡ number_in rows y.0 = rw r in
    let m : p.row ≡ q.row = omega (arith, i, j, n) in
    a.tidy ∙ rw (m, v) (sym b.tidy)
