-- Bytes in hex as people paste it: two digits a byte, of either case, with or without spaces between bytes; a dash for no bytes.
use Rattle.std.specs.Prelude.{ℕ, ◌+◌, ◌*◌, ◌-◌, List, [], ◌∷◌, ◌++◌, Bool, cond, ◌&&◌, eqb, leb, ltb, length, drop, Result, Ok, Err}
use Prim.Native.Char.{code}
use Rattle.text.specs.Bytes.{bytes, same}
use Rattle.lines.specs.declared.hex.HexError.{HexError}
use Rattle.lines.specs.declared.hex.HexError.TheVariants.{NoHex, NoRoom}

-- the value of a digit, or 16 for any other byte
abbrev pub digit_of : ℕ → ℕ
digit_of b =
    cond (leb (code "0") b && leb b (code "9")) (b - code "0")
    (cond (leb (code "A") b && leb b (code "F")) (b - code "A" + 10) (cond (leb (code "a") b && leb b (code "f")) (b - code "a" + 10) 16))

abbrev pub is_digit : ℕ → Bool
is_digit b = ltb (digit_of b) 16

-- the bytes that a text spells, or that it spells none
pub data Spelt : Type 0 where
  spells : List ℕ → Spelt
  no_hex : Spelt

abbrev pub prepend : List ℕ → Spelt → Spelt
prepend front (spells rest) = spells (front ++ rest)
prepend front no_hex = no_hex

-- spaces (32) are passed over, but not between the two digits of a byte
unfoldable pub pairs : List ℕ → Spelt
pairs [] = spells []
pairs (a ∷ []) = cond (eqb a 32) (spells []) no_hex
pairs (a ∷ b ∷ s) = cond (eqb a 32) (pairs (b ∷ s)) (cond (is_digit a && is_digit b) (prepend ((digit_of a * 16 + digit_of b) ∷ []) (pairs s)) no_hex)

-- a text without a digit is no hex
abbrev pub some_bytes : Spelt → Spelt
some_bytes (spells []) = no_hex
some_bytes (spells (b ∷ s)) = spells (b ∷ s)
some_bytes no_hex = no_hex

unfoldable pub bytes_in : List ℕ → Spelt
bytes_in s = cond (same s (bytes "-")) (spells []) (some_bytes (pairs s))

-- the answer of a call that puts these bytes into a buffer with so much room, and the buffer afterwards
abbrev pub answer : ℕ → Spelt → Result ℕ HexError
answer room (spells x) = cond (leb (length x) room) (Ok (length x)) (Err NoRoom)
answer room no_hex = Err NoHex

abbrev pub after : List ℕ → Spelt → List ℕ
after buf (spells x) = cond (leb (length x) (length buf)) (x ++ drop (length x) buf) buf
after buf no_hex = buf
