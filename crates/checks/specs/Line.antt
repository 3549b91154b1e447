-- The checks of an event line, in 01's order. The radio's table, and what it keeps of a line, are parameters.
use Rattle.std.specs.Prelude.{ℕ, suc, ◌+◌, ◌-◌, List, [], ◌∷◌, ◌++◌, Bool, true, false, cond, not, ◌&&◌, ◌||◌, leb, length, take, drop}
use Rattle.text.specs.Bytes.{bytes, same}
use Rattle.text.specs.Find.{crlf}
use Rattle.text.specs.Utf8.{utf8, valid_up_to, inside_character}
use Rattle.text.specs.Field.{Field, field}
use Rattle.at.specs.Refusal.{no, missing, invalid}
use Rattle.at.specs.Event.{Kind, bits, text, ip_type, bt_type, protocol, reason, is_protocol, is_reason, Row, kinds_of}
use Rattle.at.specs.Line.{Radio, before, ends_in, rows_named, fields_after}
use Rattle.at.specs.declared.FieldError.TheVariants.{NotListed}
use Rattle.checks.specs.Check.{Check, ◌needs◌else◌at◌}
use Rattle.checks.specs.Number.{value_of, number_checks}
use Rattle.checks.specs.declared.CheckName.TheVariants.{Utf8, LineOfTwo, PlaceTwo, LineEnd, EventName, FieldThere, FieldListed, FieldType}

-- the type of a peer is exactly `2` or `3` (IP), or exactly `1` (Bluetooth); no other kind asks for a type
abbrev pub of_type : Kind → List ℕ → Bool
of_type (bits w) b = true
of_type text b = true
of_type ip_type b = same b (bytes "2") || same b (bytes "3")
of_type bt_type b = same b (bytes "1")
of_type protocol b = true
of_type reason b = true

-- the form of the field i, whose bytes b start at the place p. A text may be any; protocol and reason have a list
abbrev pub form_checks : ℕ → Kind → ℕ → List ℕ → List Check
form_checks i (bits w) p b = number_checks i w p b
form_checks i text p b = []
form_checks i ip_type p b = (FieldType i needs of_type ip_type b else no 13 at p) ∷ []
form_checks i bt_type p b = (FieldType i needs of_type bt_type b else no 13 at p) ∷ []
form_checks i protocol p b = number_checks i 8 p b ++ (FieldListed i needs is_protocol (value_of b) else invalid i NotListed at p) ∷ []
form_checks i reason p b = number_checks i 8 p b ++ (FieldListed i needs is_reason (value_of b) else invalid i NotListed at p) ∷ []

-- the first of some fields: whether it is there, where it starts, its bytes, and the fields after it
abbrev pub is_there : List Field → Bool
is_there [] = false
is_there (f ∷ fs) = true

abbrev pub start_of : List Field → ℕ
start_of [] = 0
start_of (field p b ∷ fs) = p

abbrev pub bytes_of : List Field → List ℕ
bytes_of [] = []
bytes_of (field p b ∷ fs) = b

abbrev pub after : List Field → List Field
after [] = []
after (f ∷ fs) = fs

-- left to right from the field i on: each first for being there, then for its form. The text of the fields ends at the place `end`
unfoldable pub field_checks : ℕ → ℕ → List Kind → List Field → List Check
field_checks i end [] fs = []
field_checks i end (k ∷ ks) fs =
    (FieldThere i needs is_there fs else missing i at end)
    ∷ form_checks i k (start_of fs) (bytes_of fs)
    ++ field_checks (suc i) end ks (after fs)

-- the fields have the types that these kinds ask for
abbrev pub types_fit : List Kind → List Field → Bool
types_fit [] fs = true
types_fit (k ∷ ks) fs = of_type k (bytes_of fs) && types_fit ks (after fs)

-- of the rows of one name, the first whose types the fields have, or else the last; its kinds
unfoldable pub kinds_for : List Row → List Field → List Kind
kinds_for [] fs = []
kinds_for (r ∷ []) fs = kinds_of r
kinds_for (r ∷ q ∷ rs) fs = cond (types_fit (kinds_of r) fs) (kinds_of r) (kinds_for (q ∷ rs) fs)

abbrev pub is_listed : List Row → Bool
is_listed [] = false
is_listed (r ∷ rs) = true

-- a text that starts at the place p: its name stands before the first colon, and is in the radio's list; its fields
unfoldable pub text_checks : List Row → ℕ → List ℕ → List Check
text_checks rows p t =
    (EventName needs is_listed (rows_named rows (before (bytes ":") t)) else no 16 at p)
    ∷ field_checks 1 (p + length t) (kinds_for (rows_named rows (before (bytes ":") t)) (fields_after p t)) (fields_after p t)

-- what stands between the first two and the last two bytes
abbrev pub inner : List ℕ → List ℕ
inner line = drop 2 (take (length line - 2) line)

-- the line that starts at the place p
unfoldable pub line_checks : Radio → ℕ → List ℕ → List Check
line_checks radio p line =
    (Utf8 needs utf8 line else no 11 at p + valid_up_to line)
    ∷ (LineOfTwo needs leb 2 (length line) else no 12 at p + length line)
    ∷ (PlaceTwo needs not (inside_character line 2) else no 12 at p + 2)
    ∷ (LineEnd needs ends_in (drop 2 line) crlf else no 12 at p + length line)
    ∷ text_checks radio.rows (p + 2) (radio.kept (inner line))
