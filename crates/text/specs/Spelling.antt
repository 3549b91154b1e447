-- Numbers a second time, without reading from left to right: how a number is spelt, which bytes are allowed, and what each answer says of a text.
-- That the two agree, and so that the answers exclude each other and leave no text out, is proved (`says`, `says-only`).
use Rattle.std.specs.Prelude.{ℕ, zero, suc, ◌^◌, ◌≤◌, ◌<◌, ◌≡◌, List, [], ◌∷◌, ◌++◌, ◌⊎◌, Bool, true, false, ◌&&◌, ◌||◌, eqb, length, get_or}
use Rattle.text.specs.Bytes.{every}
use Rattle.text.specs.Number.{Num, some, none, is_digit, digits_from}
use Rattle.text.specs.declared.number.NumberError.TheVariants.{Empty, Byte, Large}

-- a text that spells n: one plus or none, and then one or more digits of that value
pub record Spells (n : ℕ) (s : List ℕ) : Type 0 where
  pub sign : List ℕ
  pub ds : List ℕ
  pub plus : (sign ≡ []) ⊎ (sign ≡ 43 ∷ [])
  pub some-digit : 0 < length ds
  pub all_digits : every is_digit ds ≡ true
  pub value : digits_from 0 ds ≡ some n
  pub text : s ≡ sign ++ ds

-- the byte at a place is allowed: a digit; or, at the start, a plus (43) in front of a digit
abbrev pub allowed_at : List ℕ → ℕ → Bool
allowed_at s zero = is_digit (get_or s 0 0) || (eqb (get_or s 0 0) 43 && is_digit (get_or s 1 0))
allowed_at s (suc i) = is_digit (get_or s (suc i) 0)

-- what an answer of the reader of `width` bits says of a text. A text that spells a number has allowed bytes only (`spells_allowed`)
abbrev pub Says : ℕ → List ℕ → Num → Type 0
Says width s (some n) = Spells n s × (n < 2 ^ width)
Says width s (none Empty) = s ≡ []
Says width s (none Byte) = (i : ℕ) × (i < length s) × (allowed_at s i ≡ false)
Says width s (none Large) = (n : ℕ) × Spells n s × (2 ^ width ≤ n)
