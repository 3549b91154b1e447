-- The three checks of a number, and what the number reader says of the same text.
use Prim.Native.Nat.{ℕ, ◌+◌, ◌*◌, ◌-◌, ◌^◌}
use mathlib.Core.Path.{◌≡◌, refl, sym, ◌∙◌}
use mathlib.Core.List.{List, [], ◌∷◌}
use mathlib.Core.Bool.{Bool, true, false, cond, ◌&&◌}
use native.Mathlib.Omega.{arith}
use lib.Dec.{eqb, ltb}
use lib.ListN.{length}
use borrow.Author.Tests.{le-leb}
use Rattle.text.specs.Bytes.{every}
use Rattle.text.specs.Number.{Num, some, none, is_digit, digits_from, under, digits, signed, number}
use Rattle.text.specs.declared.number.NumberError.TheVariants.{Empty, Byte, Large}
use Rattle.at.specs.Refusal.{invalid}
use Rattle.at.specs.declared.FieldError.TheVariants.{NoNumber}
use Rattle.checks.specs.Check.{Finding, all_hold, broken, first_broken}
use Rattle.checks.specs.Number.{not_empty, only_allowed, value_from, value_of, small_enough, number_checks}
use Rattle.checks.specs.Steps.{form_check}

value : (v : ℕ) (s : List ℕ) → digits_from v s ≡ cond (every is_digit s) (some (value_from v s)) (none Byte)
unfolding digits_from every value_from
value v [] = refl
value v (b ∷ s) = go (is_digit b) (value (v * 10 + (b - 48)) s)
  where
    go : (k : Bool) → digits_from (v * 10 + (b - 48)) s ≡ cond (every is_digit s) (some (value_from (v * 10 + (b - 48)) s)) (none Byte)
        → cond k (digits_from (v * 10 + (b - 48)) s) (none Byte) ≡ cond (k && every is_digit s) (some (value_from (v * 10 + (b - 48)) s)) (none Byte)
    go true e = e
    go false e = refl

-- the answers in the order of the checks
abbrev of_digits : Bool → Bool → ℕ → Num
of_digits allowed small v = cond allowed (cond small (some v) (none Large)) (none Byte)

limited : (limit : ℕ) (k : Bool) (v : ℕ) → under limit (cond k (some v) (none Byte)) ≡ of_digits k (ltb v limit) v
unfolding under
limited limit false v = refl
limited limit true v = refl

none_there : not_empty [] ≡ false
unfolding not_empty
none_there = refl

some_there : (b : ℕ) (s : List ℕ) → not_empty (b ∷ s) ≡ true
unfolding not_empty
some_there b s = le-leb 1 (length (b ∷ s)) (omega arith)

spelt : (limit : ℕ) (s : List ℕ) → digits limit s ≡ of_digits (not_empty s && every is_digit s) (ltb (value_from 0 s) limit) (value_from 0 s)
unfolding digits
spelt limit [] = rw none_there
spelt limit (b ∷ s) = rw (some_there b s, value 0 (b ∷ s)) (limited limit (every is_digit (b ∷ s)) (value_from 0 (b ∷ s)))

pub number-by_checks : (width : ℕ) (s : List ℕ) → number width s ≡ cond (not_empty s) (of_digits (only_allowed s) (small_enough width s) (value_of s)) (none Empty)
unfolding number signed only_allowed small_enough
number-by_checks width [] = rw none_there
number-by_checks width (b ∷ s) = rw (some_there b s) (go (eqb b 43))
  where
    go : (k : Bool) → cond k (digits (2 ^ width) s) (digits (2 ^ width) (b ∷ s))
        ≡ of_digits (not_empty (cond k s (b ∷ s)) && every is_digit (cond k s (b ∷ s))) (ltb (value_from 0 (cond k s (b ∷ s))) (2 ^ width)) (value_from 0 (cond k s (b ∷ s)))
    go true = spelt (2 ^ width) s
    go false = spelt (2 ^ width) (b ∷ s)

-- what the checks find of the field i, which starts at the place p, by the reader's answer
abbrev pub found_number : ℕ → ℕ → Num → Finding
found_number i p (some n) = all_hold
found_number i p (none why) = broken (form_check i (NoNumber why)) (invalid i (NoNumber why)) p

pub number-found : (i width p : ℕ) (s : List ℕ) → first_broken (number_checks i width p s) ≡ found_number i p (number width s)
unfolding first_broken
number-found i width p s = rw (number-by_checks width s) (go (not_empty s) (only_allowed s) (small_enough width s))
  where
    go : (a b c : Bool)
        → cond a (cond b (cond c all_hold (broken (form_check i (NoNumber Large)) (invalid i (NoNumber Large)) p)) (broken (form_check i (NoNumber Byte)) (invalid i (NoNumber Byte)) p)) (broken (form_check i (NoNumber Empty)) (invalid i (NoNumber Empty)) p)
        ≡ found_number i p (cond a (of_digits b c (value_of s)) (none Empty))
    go false b c = refl
    go true false c = refl
    go true true false = refl
    go true true true = refl

-- a number that was read is the value of its digits
pub number-value : (width n : ℕ) (s : List ℕ) → number width s ≡ some n → value_of s ≡ n
number-value width n s e = go (not_empty s) (only_allowed s) (small_enough width s) (sym (number-by_checks width s) ∙ e)
  where
    go : (a b c : Bool) → cond a (of_digits b c (value_of s)) (none Empty) ≡ some n → value_of s ≡ n
    go false b c f = absurd cc
    go true false c f = absurd cc
    go true true false f = absurd cc
    go true true true f = cc
