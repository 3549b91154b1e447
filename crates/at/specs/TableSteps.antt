-- A table and its bytes, for the contracts of private steps that are lent them, here and in the crates above. No promise of a public function cites
-- this file.
use Rattle.std.specs.Prelude.{ℕ, List, [], ◌∷◌, ◌≡◌, Bool, true, ◌&&◌, leb, length}
use Rattle.at.specs.Event.{Row, name_of}
use Rattle.at.specs.Table.{letters_of, spelled}

-- a table whose names and letters have room in a row, and its bytes
unfoldable pub roomy : List Row → Bool
roomy [] = true
roomy (r ∷ rs) = leb (length (name_of r)) 11 && leb (length (letters_of r)) 7 && roomy rs

pub record Tabled (rows : List Row) (s : List ℕ) : Type 0 where
  pub spells : s ≡ spelled rows
  pub rooms : roomy rows ≡ true
