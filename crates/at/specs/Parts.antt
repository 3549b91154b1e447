-- An event taken apart: the number of its row in a table, and its values.
use Rattle.std.specs.Prelude.{ℕ, zero, suc, ◌<◌, ◌≡◌, List, [], ◌∷◌, map, cond, length, take, get_or}
use Rattle.text.specs.Bytes.{same}
use Rattle.at.specs.Refusal.{OrRefused, good, refused, no}
use Rattle.at.specs.Event.{Row, Value, num, place, at, Event, event}
use Rattle.at.specs.Table.{spelled_row}
use Rattle.at.specs.declared.parts.Value as value
use Rattle.at.specs.declared.parts.Parts.{Parts}

abbrev pub value_of : value.Value → Value
value_of (value.TheVariants.Number n) = num n
value_of (value.TheVariants.Place t) = at t

-- the first `count` of the seven
abbrev pub values_of : Parts → List Value
values_of p = take p.count (map value_of p.values)

-- the row with a number, counted from 0; a number that no row has is no event (16)
unfoldable pub row_no : List Row → ℕ → OrRefused Row
row_no [] i = refused (no 16)
row_no (r ∷ rs) zero = good r
row_no (r ∷ rs) (suc i) = row_no rs i

-- the other way: the number of the first row that has the name and the kinds of this one
unfoldable pub number_in : List Row → Row → ℕ
number_in [] r = 0
number_in (q ∷ rows) r = cond (same (spelled_row r) (spelled_row q)) 0 (suc (number_in rows r))

-- the event of a row and its values
abbrev pub with_row : OrRefused Row → List Value → OrRefused Event
with_row (good r) vs = good (event r vs)
with_row (refused n) vs = refused n

-- the event that these parts are of
abbrev pub together : List Row → Parts → OrRefused Event
together rows p = with_row (row_no rows p.row) (values_of p)

-- the other way: up to seven values in parts, where those that are not used are the number 0
abbrev pub part_of : Value → value.Value
part_of (num n) = value.TheVariants.Number n
part_of (place p n) = value.TheVariants.Place (record { start = p; len = n })

abbrev pub part_no : List Value → ℕ → value.Value
part_no vs i = part_of (get_or vs i (num 0))

abbrev pub parts_of : ℕ → List Value → Parts
parts_of i vs =
    record {
      row = i;
      count = length vs;
      values = part_no vs 0 ∷ part_no vs 1 ∷ part_no vs 2 ∷ part_no vs 3 ∷ part_no vs 4 ∷ part_no vs 5 ∷ part_no vs 6 ∷ [];
    }

-- an event in parts, by a table: its row is in the table, the parts together are the event, and they hold nothing else
pub record Apart (rows : List Row) (e : Event) (p : Parts) : Type 0 where
  pub listed : p.row < length rows
  pub whole : together rows p ≡ good e
  pub tidy : p ≡ parts_of p.row (values_of p)
