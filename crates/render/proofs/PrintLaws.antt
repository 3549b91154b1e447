-- What is printed piece by piece is printed at once, whether or not it fits.
use Prim.Native.Nat.{ℕ, suc, ◌+◌, ◌-◌, ◌≤◌, ◌<◌, min}
use mathlib.Core.Bool.{Bool, true, false}
use mathlib.Core.Path.{◌≡◌, refl, sym, ap, ◌∙◌}
use mathlib.Core.List.{List, [], ◌∷◌, ◌++◌, append-nil, append_assoc}
use native.Mathlib.Numerals.{add-one}
use native.Mathlib.Omega.{arith}
use borrow.Author.Tests.{leb-true, leb-false}
use lib.Dec.{leb}
use lib.ListN.{length, take, drop, set, length-append, length-take, take-append-drop}
use lib.Seq.{take_all, take-append-le, take-append-add, set_split}
use Rattle.text.specs.Put.{placed}
use Rattle.text.proofs.PutLaws.{room}
use Rattle.text.proofs.PutAppend.{placed-length, after_append}
use Rattle.render.specs.Print.{fitting, Prints}

-- the front of two texts
take_two : (k : ℕ) (x y : List ℕ) → take k (x ++ y) ≡ take k x ++ take (k - length (take k x)) y
take_two k x y = go (leb k (length x)) refl
  where
    go : (b : Bool) → leb k (length x) ≡ b → take k (x ++ y) ≡ take k x ++ take (k - length (take k x)) y
    go true t =
        let h : k ≤ length x = leb-true k (length x) t in
        let n : k - length (take k x) ≡ 0 = rw (length-take k x) (omega arith) in
        rw (n, take-append-le k x y h) (sym (append-nil (take k x)))
    go false t =
        let h : length x ≤ k = let g = leb-false k (length x) t in omega arith in
        let n : k ≡ length x + (k - length x) = omega arith in
        rw (take_all k x h) (ap (λ (m : ℕ). take m (x ++ y)) n ∙ take-append-add x y (k - length x))

nothing_placed : (b : List ℕ) (at : ℕ) → placed b at [] ≡ b
unfolding placed
nothing_placed b at = let n : at + 0 ≡ at = omega arith in rw (append-nil (take at b), n) (take-append-drop at b)

-- past the buffer nothing fits
none-fits : (b : List ℕ) (at : ℕ) (ds : List ℕ) → length b ≤ at → fitting b at ds ≡ []
none-fits b at ds h = let n : length b - at ≡ 0 = omega arith in rw n

-- no byte, and one
pub prints-none : (b : List ℕ) (at : ℕ) → Prints b at [] at b
prints-none b at = record { reaches = rw e (omega arith); leaves = rw e (sym (nothing_placed b at)) }
  where
    e : fitting b at [] ≡ []
    e = take_all (length b - at) [] (omega arith)

pub prints_past : (b : List ℕ) (at : ℕ) (ds : List ℕ) → length b ≤ at → Prints b at ds at b
prints_past b at ds h = rw_none (none-fits b at ds h)
  where
    rw_none : fitting b at ds ≡ [] → Prints b at ds at b
    rw_none e = record { reaches = rw e (omega arith); leaves = rw e (sym (nothing_placed b at)) }

pub prints-byte : (b : List ℕ) (at x : ℕ) → at < length b → Prints b at (x ∷ []) (at + 1) (set b at x)
unfolding placed
prints-byte b at x h = record { reaches = rw e; leaves = rw (e, add-one at) (set_split b at x h ∙ rw_snoc) }
  where
    e : fitting b at (x ∷ []) ≡ x ∷ []
    e = take_all (length b - at) (x ∷ []) (omega arith)

    rw_snoc : take at b ++ x ∷ drop (suc at) b ≡ take at b ++ (x ∷ []) ++ drop (suc at) b
    rw_snoc = sym (append_assoc (take at b) (x ∷ []) (drop (suc at) b))

-- two texts that fit
placed_both : (b : List ℕ) (at : ℕ) (f g : List ℕ) → at + length f + length g ≤ length b → placed (placed b at f) (at + length f) g ≡ placed b at (f ++ g)
placed_both b at f g h =
    let both = length-append f g in
    let size = placed-length b at f (omega arith) in
    let first = (room b at f (omega arith)).1 in
    let second = (room (placed b at f) (at + length f) g (omega arith)).1 in
    let once = (room b at (f ++ g) (omega arith)).1 in
    rw (first, second, once) at (after_append b at f g h)

-- one after the other
module _ (b : List ℕ) (at : ℕ) (x y : List ℕ) where
  abbrev front : List ℕ
  front = fitting b at x

  abbrev rest : List ℕ
  rest = take (length b - (at + length front)) y

  both_fit : fitting b at (x ++ y) ≡ front ++ rest
  both_fit =
      let n : length b - at - length front ≡ length b - (at + length front) = omega arith in
      take_two (length b - at) x y ∙ rw n

  front_room : at ≤ length b → at + length front ≤ length b
  front_room h = rw (length-take (length b - at) x) (omega arith)

  past_twice : (f g : List ℕ) → f ≡ [] → g ≡ [] → placed (placed b at f) (at + length f) g ≡ placed b at (f ++ g)
  past_twice f g p q = rw (p, q, nothing_placed b at) (nothing_placed b (at + 0))

  placed_twice : (n : ℕ) → n ≡ at + length front → placed (placed b at front) n rest ≡ placed b at (front ++ rest)
  placed_twice n e = rw e (go (leb at (length b)) refl)
    where
      go : (t : Bool) → leb at (length b) ≡ t → placed (placed b at front) (at + length front) rest ≡ placed b at (front ++ rest)
      go true t =
          let h : at ≤ length b = leb-true at (length b) t in
          let r = front_room h in
          let l : length rest ≡ min (length b - (at + length front)) (length y) = length-take (length b - (at + length front)) y in
          placed_both b at front rest (omega arith)
      go false t =
          let h : length b ≤ at = let g = leb-false at (length b) t in omega arith in
          let f : front ≡ [] = none-fits b at x h in
          let g : rest ≡ [] = none-fits b (at + length front) y (omega arith) in
          past_twice front rest f g

  same_size : length (placed b at front) ≡ length b
  same_size = go (leb at (length b)) refl
    where
      go : (t : Bool) → leb at (length b) ≡ t → length (placed b at front) ≡ length b
      go true t = placed-length b at front (front_room (leb-true at (length b) t))
      go false t =
          let h : length b ≤ at = let g = leb-false at (length b) t in omega arith in
          rw (none-fits b at x h) (ap length (nothing_placed b at))

pub prints_then : {b c d : List ℕ} {at q r : ℕ} {x y : List ℕ} → Prints b at x q c → Prints c q y r d → Prints b at (x ++ y) r d
prints_then {b} {c} {d} {at} {q} {r} {x} {y} p s =
    record {
      reaches = s.reaches ∙ rw (left, both_fit b at x y, length-append (front b at x y) (rest b at x y)) (omega (arith, p.reaches));
      leaves = s.leaves ∙ rw (left, both_fit b at x y, p.leaves) (placed_twice b at x y q p.reaches);
    }
  where
    left : fitting c q y ≡ rest b at x y
    left = rw (p.leaves, same_size b at x y, p.reaches)

-- the same between the pieces: a next b next c
infixl 20 ◌next◌
pub ◌next◌ : {b c d : List ℕ} {at q r : ℕ} {x y : List ℕ} → Prints b at x q c → Prints c q y r d → Prints b at (x ++ y) r d
p next s = prints_then p s

-- with room for all of it
pub prints-whole : {b e : List ℕ} {at r : ℕ} {ds : List ℕ} → Prints b at ds r e → at + length ds ≤ length b → (r ≡ at + length ds) × (e ≡ placed b at ds)
prints-whole {b} {e} {at} {r} {ds} p h =
    let all : fitting b at ds ≡ ds = take_all (length b - at) ds (omega arith) in
    (rw all at p.reaches, rw all at p.leaves)
