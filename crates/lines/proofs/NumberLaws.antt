-- Laws of a number, digit by digit.
use Prim.Native.Nat.{ℕ, suc, ◌+◌, ◌*◌, ◌-◌, ◌≤◌, ◌<◌, min}
use mathlib.Core.Path.{◌≡◌, refl, sym, ap}
use mathlib.Core.List.{List, [], ◌∷◌}
use mathlib.Core.Bool.{Bool, true, false, cond}
use Rattle.std.specs.Prelude.{◌==◌}
use native.Mathlib.Numerals.{add-one}
use native.Mathlib.Omega.{arith}
use Rattle.std.proofs.lemmas.Bool.{eqb-true}
use lib.ListN.{length, drop, get_or, drop_of_length-le}
use lib.Seq.{drop-cons}
use Rattle.text.specs.Number.{none, is_digit, digits_from}
use Rattle.text.specs.declared.number.NumberError.TheVariants.{Byte}
use Rattle.lines.specs.Number.{amount, no_amount, capped, number_in}

-- numbers that are capped alike stay so with a digit more
module _ (s : List ℕ) where
  pub capped_start : false ≡ (length s == 0) → number_in s ≡ capped (digits_from 0 s)
  unfolding number_in
  capped_start h = go s h
    where
      go : (t : List ℕ) → false ≡ (length t == 0) → number_in t ≡ capped (digits_from 0 t)
      go [] h = let z : ◌≡◌ {A = ℕ} 0 1 = cc in absurd (omega arith)
      go (b ∷ t) h = refl

  pub none_empty : true ≡ (length s == 0) → number_in s ≡ no_amount
  unfolding number_in
  none_empty h = go s h
    where
      go : (t : List ℕ) → true ≡ (length t == 0) → number_in t ≡ no_amount
      go [] h = refl
      go (b ∷ t) h = let z = eqb-true (length (b ∷ t)) 0 (sym h) in absurd (omega (arith, z))

capped_same : (v w : ℕ) (s : List ℕ) → min v 4294967296 ≡ min w 4294967296 → capped (digits_from v s) ≡ capped (digits_from w s)
unfolding digits_from
capped_same v w [] e = ap amount e
capped_same v w (b ∷ s) e = go (is_digit b) (capped_same (v * 10 + (b - 48)) (w * 10 + (b - 48)) s (omega arith))
  where
    go : (k : Bool) → capped (digits_from (v * 10 + (b - 48)) s) ≡ capped (digits_from (w * 10 + (b - 48)) s)
        → capped (cond k (digits_from (v * 10 + (b - 48)) s) (none Byte)) ≡ capped (cond k (digits_from (w * 10 + (b - 48)) s) (none Byte))
    go true ih = ih
    go false ih = refl

module _ (v : ℕ) (s : List ℕ) (i : ℕ) where
  pub capped-end : length s ≤ i → v ≤ 4294967296 → capped (digits_from v (drop i s)) ≡ amount v
  unfolding digits_from
  capped-end h l = rw (drop_of_length-le s {i = i} h) (let z : min v 4294967296 ≡ v = omega arith in ap amount z)

  module _ (h : i < length s) where
    pub capped_other : is_digit (get_or s i 0) ≡ false → capped (digits_from v (drop i s)) ≡ no_amount
    unfolding digits_from
    capped_other e = rw (drop-cons s i 0 h, e)

    pub capped-more : is_digit (get_or s i 0) ≡ true → (w : ℕ) → w ≡ min (v * 10 + (get_or s i 0 - 48)) 4294967296
        → capped (digits_from v (drop i s)) ≡ capped (digits_from w (drop (i + 1) s))
    unfolding digits_from
    capped-more p w e = rw (add-one i, drop-cons s i 0 h, p) (capped_same (v * 10 + (get_or s i 0 - 48)) w (drop (suc i) s) (omega arith))
