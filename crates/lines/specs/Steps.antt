-- What the private steps of the code say. No promise that a reader needs cites this file.
use Rattle.std.specs.Prelude.{ℕ, ◌+◌, ◌≤◌, ◌≡◌, [], ◌∷◌, length, not, Bool, ◌==◌, ⊤, Option, Some, None, Result, Ok, Err}
use Rattle.lines.specs.declared.hex.Pair.{Pair}
use Rattle.lines.specs.declared.hex.HexError.{HexError}
use Rattle.lines.specs.declared.hex.HexError.TheVariants.{NoHex}
use Rattle.lines.specs.Hex.{Spelt, spells, no_hex, prepend, pairs}

abbrev pub no_space : ℕ → Bool
no_space b = not (b == 32)

-- what a text spells, by its first byte and what is left
abbrev pub step_of : Result (Option Pair) HexError → Spelt
step_of (Ok (Some p)) = prepend (p.value ∷ []) (pairs p.rest.now)
step_of (Ok None) = spells []
step_of (Err e) = no_hex

-- a byte takes two digits or more of a text with this length, and only a text that is no hex is refused
abbrev pub Shorter : ℕ → Result (Option Pair) HexError → Type 0
Shorter n (Ok (Some p)) = 2 + length p.rest.now ≤ n
Shorter n (Ok None) = ⊤
Shorter n (Err e) = e ≡ NoHex

-- so many bytes, and those that are spelt
abbrev pub counted : ℕ → Spelt → Result ℕ HexError
counted n (spells x) = Ok (n + length x)
counted n no_hex = Err NoHex
