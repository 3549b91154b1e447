-- The three reasons of request 5 for which a text is no number of a width, as checks, in the order of 02: empty, a byte that is not allowed, too large.
use Rattle.std.specs.Prelude.{ℕ, ◌+◌, ◌*◌, ◌-◌, ◌^◌, List, [], ◌∷◌, Bool, cond, ◌&&◌, eqb, leb, ltb, length}
use Rattle.text.specs.Bytes.{every}
use Rattle.text.specs.Number.{is_digit}
use Rattle.text.specs.declared.number.NumberError.TheVariants.{Empty, Byte, Large}
use Rattle.at.specs.Refusal.{invalid}
use Rattle.at.specs.declared.FieldError.TheVariants.{NoNumber}
use Rattle.checks.specs.Check.{Check, ◌needs◌else◌at◌}
use Rattle.checks.specs.declared.CheckName.TheVariants.{FieldEmpty, FieldByte, FieldLarge}

-- without the one plus (43) that may stand in front
abbrev pub unsigned : List ℕ → List ℕ
unsigned [] = []
unsigned (b ∷ s) = cond (eqb b 43) s (b ∷ s)

unfoldable pub not_empty : List ℕ → Bool
not_empty s = leb 1 (length s)

-- one or more digits after the sign, and nothing else: a lone plus is not allowed
unfoldable pub only_allowed : List ℕ → Bool
only_allowed s = not_empty (unsigned s) && every is_digit (unsigned s)

-- the value of digits that stand after a value so far
unfoldable pub value_from : ℕ → List ℕ → ℕ
value_from v [] = v
value_from v (b ∷ s) = value_from (v * 10 + (b - 48)) s

abbrev pub value_of : List ℕ → ℕ
value_of s = value_from 0 (unsigned s)

unfoldable pub small_enough : ℕ → List ℕ → Bool
small_enough width s = ltb (value_of s) (2 ^ width)

-- the field i, whose bytes b start at the place p, is a number of a width
abbrev pub number_checks : ℕ → ℕ → ℕ → List ℕ → List Check
number_checks i width p b =
    (FieldEmpty i needs not_empty b else invalid i (NoNumber Empty) at p)
    ∷ (FieldByte i needs only_allowed b else invalid i (NoNumber Byte) at p)
    ∷ (FieldLarge i needs small_enough width b else invalid i (NoNumber Large) at p)
    ∷ []
