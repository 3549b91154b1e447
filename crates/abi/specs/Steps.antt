-- What the private answers of the code say in the definitions' terms. No promise of a public function cites this file.
use Rattle.std.specs.Prelude.{ℕ, suc, ◌+◌, ◌≤◌, ◌≡◌, List, [], ◌∷◌, ◌++◌, Bool, true, ◌&&◌, leb, length, take, Result, Ok, Err}
use Rattle.text.specs.Put.{placed}
use Rattle.at.specs.Refusal.{OrRefused, good, refused, no}
use Rattle.at.specs.Event.{Kind, text, Row, Event}
use Rattle.at.specs.Parts.{together}
use Rattle.at.specs.TableSteps.{Tabled}
use Rattle.at.specs.Steps.{kinds_in, Legible}
use Rattle.abi.specs.Given.{value_kinds}
use Rattle.edm.specs.declared.EdmPacket.{EdmPacket}
use Rattle.at.specs.declared.parts.Parts.{Parts}
use Rattle.abi.specs.declared.given.RowError.{RowError}
use Rattle.abi.specs.declared.given.RowError.TheVariants as error

-- the number of the refusal of a row
abbrev pub row_error_no : RowError → ℕ
row_error_no error.TooShort = 254
row_error_no error.Invalid = 253

-- what was given: the parts of an event, or the refusal
abbrev pub Gives : List Row → Result Parts RowError → OrRefused Event → Type 0
Gives rows (Ok p) o = (e : Event) × (together rows p ≡ good e) × (o ≡ good e)
Gives rows (Err e) o = o ≡ refused (no (row_error_no e))

abbrev pub packet_of : Result EdmPacket RowError → OrRefused EdmPacket
packet_of (Ok p) = good p
packet_of (Err e) = refused (no (row_error_no e))

-- the kinds of so many values, by the letters of the fields
abbrev pub kinds_for : List ℕ → ℕ → List Kind
kinds_for letters count = take count (kinds_in letters ++ text ∷ [])

-- a table whose rows have at most seven values each, and its bytes. The rows are counted from i on
unfoldable pub seven_at_most : ℕ → ℕ → List Row → Bool
seven_at_most texts i [] = true
seven_at_most texts i (r ∷ rs) = leb (length (value_kinds texts i r)) 7 && seven_at_most texts (suc i) rs

pub record Few (texts : ℕ) (rows : List Row) (s : List ℕ) : Type 0 where
  pub tabled : Tabled rows s
  pub legible : Legible rows
  pub seven : seven_at_most texts 0 rows ≡ true

abbrev pub SomeFew : ℕ → List ℕ → Type 0
SomeFew texts s = (rows : List Row) × Few texts rows s

-- numbers of an event that are put into a row from a place on, at most 15 of them, and the place after them
pub record Puts (row : List ℕ) (at : ℕ) (numbers : List ℕ) (r : ℕ) (exit : List ℕ) : Type 0 where
  pub ends : r ≡ at + length numbers
  pub most : r ≤ at + 15
  pub leaves : exit ≡ placed row at numbers
