-- The rows of the tables, tested by computing: how much of a row's line is not paid for by its fields.
use Prim.Native.Nat.{ℕ, ◌+◌, ◌*◌}
use mathlib.Core.Path.{◌≡◌, refl}
use mathlib.Core.List.{List, [], ◌∷◌}
use mathlib.Core.Bool.{Bool, true, ◌&&◌}
use lib.Dec.{leb}
use lib.ListN.{length}
use Rattle.text.specs.Bytes.{bytes, same}
use Rattle.at.specs.Event.{Row, name_of, kinds_of}
use Rattle.at.specs.W26 as w26
use Rattle.at.specs.W36 as w36
use Rattle.render.specs.Event.{Case, cases26, cases36, case_of}
use Rattle.render.proofs.WordLengths.{extra}
use Rattle.render.proofs.FieldWeights.{extras}

-- every row of a table passes a test
unfoldable pub rows_pass : (Row → Bool) → List Row → Bool
rows_pass test [] = true
rows_pass test (r ∷ rs) = test r && rows_pass test rs

-- that much: the name of the row's case, and what its kinds may add
abbrev pub cost : List Case → Row → ℕ
cost cases r = length (bytes (case_of cases r)) + extras (kinds_of r)

abbrev pub cheap : List Case → Row → Bool
cheap cases r = leb (cost cases r) 50

-- with 11 bytes more, for the place and the semicolon of a step, it is at most 18 fifths of the bytes that every event of the row has: 4 and the name
abbrev pub paid : List Case → Row → Bool
paid cases r = leb (5 * (cost cases r + 11)) (18 * (4 + length (name_of r)))

pub cheap_26 : rows_pass (cheap cases26) w26.table ≡ true
unfolding rows_pass cases26 case_of extras extra same w26.table
cheap_26 = refl

pub record Passed36 (test : List Case → Row → Bool) : Type 0 where
  pub texts : rows_pass (test cases36) w36.table ≡ true
  pub binaries : rows_pass (test cases36) w36.binary_table ≡ true

pub passed_36 : Passed36 cheap × Passed36 paid
unfolding rows_pass cases36 case_of extras extra same w36.table w36.binary_table
passed_36 = (record { texts = refl; binaries = refl }, record { texts = refl; binaries = refl })
