-- Decimal numbers of a width in bits: an optional single plus, then one or more digits, with leading zeros to any length.
use Rattle.std.specs.Prelude.{ℕ, ◌+◌, ◌*◌, ◌-◌, ◌^◌, List, [], ◌∷◌, Result, Ok, Err, Bool, cond, ◌&&◌, eqb, ltb, leb}
use Rattle.text.specs.declared.number.NumberError.{NumberError}
use Rattle.text.specs.declared.number.NumberError.TheVariants.{Empty, Byte, Large}

-- the number that a text spells, or why it spells none: it is empty, a byte of it is not allowed, or the number is too large
pub data Num : Type 0 where
  some : ℕ → Num
  none : NumberError → Num

-- the codes of 0 to 9 are 48 to 57
abbrev pub is_digit : ℕ → Bool
is_digit b = leb 48 b && leb b 57

-- the value of digits that stand after a value so far; a byte that is no digit is not allowed
unfoldable pub digits_from : ℕ → List ℕ → Num
digits_from v [] = some v
digits_from v (b ∷ s) = cond (is_digit b) (digits_from (v * 10 + (b - 48)) s) (none Byte)

-- a number that is below the limit; any other is too large
unfoldable pub under : ℕ → Num → Num
under limit (some v) = cond (ltb v limit) (some v) (none Large)
under limit (none e) = none e

-- one or more digits. Where there is none, a plus stands alone, which is not allowed
unfoldable pub digits : ℕ → List ℕ → Num
digits limit [] = none Byte
digits limit (b ∷ s) = under limit (digits_from 0 (b ∷ s))

-- one plus (43) in front of them, or none
unfoldable pub signed : ℕ → List ℕ → Num
signed limit [] = none Empty
signed limit (b ∷ s) = cond (eqb b 43) (digits limit s) (digits limit (b ∷ s))

-- the number of `width` bits that a text spells
unfoldable pub number : ℕ → List ℕ → Num
number width s = signed (2 ^ width) s

-- what an answer of the reader says, where the value of each number of its width is known
abbrev pub shown : {A : Type 0} → (A → ℕ) → Result A NumberError → Num
shown value (Ok a) = some (value a)
shown value (Err e) = none e
