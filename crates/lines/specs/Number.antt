-- Numbers as a line spells them: decimal digits alone.
use Rattle.std.specs.Prelude.{ℕ, min, List, [], ◌∷◌, Option, Some, None}
use Rattle.text.specs.Number.{Num, some, none, digits_from}

pub data Amount : Type 0 where
  amount : ℕ → Amount
  no_amount : Amount

-- what 32 bits do not hold counts as the first such number, which is more than any use of it allows
abbrev pub capped : Num → Amount
capped (some n) = amount (min n 4294967296)
capped (none why) = no_amount

unfoldable pub number_in : List ℕ → Amount
number_in [] = no_amount
number_in (b ∷ s) = capped (digits_from 0 (b ∷ s))

-- what the answer shows
abbrev pub amount_of : Option ℕ → Amount
amount_of (Some n) = amount n
amount_of None = no_amount
