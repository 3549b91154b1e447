-- A table of events in bytes, as the code holds it. A row has twenty: the length of its name, the number of its fields, eleven for the name and
-- seven for a letter a field, both filled up with spaces.
use Rattle.std.specs.Prelude.{ℕ, ◌+◌, ◌*◌, List, [], ◌∷◌, ◌++◌, map, cond, eqb, length, take, get_or}
use Prim.Native.Char.{code}
use Rattle.text.specs.Bytes.{bytes, part}
use Rattle.at.specs.Event.{Kind, bits, text, ip_type, bt_type, protocol, reason, Row, name_of, kinds_of}

-- the letter of a kind
abbrev pub letter_of : Kind → ℕ
letter_of (bits w) = cond (eqb w 8) (code "b") (cond (eqb w 16) (code "w") (code "l"))
letter_of text = code "s"
letter_of ip_type = code "i"
letter_of bt_type = code "t"
letter_of protocol = code "p"
letter_of reason = code "r"

abbrev pub letters_of : Row → List ℕ
letters_of r = map letter_of (kinds_of r)

-- a text in n bytes, of which the last ones are spaces; n is at most 11
abbrev pub filled : ℕ → List ℕ → List ℕ
filled n s = take n (s ++ bytes "           ")

-- the bytes of a row, and of a table
abbrev pub spelled_row : Row → List ℕ
spelled_row r = length (name_of r) ∷ length (letters_of r) ∷ (filled 11 (name_of r) ++ filled 7 (letters_of r))

unfoldable pub spelled : List Row → List ℕ
spelled [] = []
spelled (r ∷ rs) = spelled_row r ++ spelled rs

-- of any bytes: the name and the letters of the row with a number, counted from 0
abbrev pub name_at : List ℕ → ℕ → List ℕ
name_at s i = part s (i * 20 + 2) (get_or s (i * 20) 0)

abbrev pub letters_at : List ℕ → ℕ → List ℕ
letters_at s i = part s (i * 20 + 13) (get_or s (i * 20 + 1) 0)
