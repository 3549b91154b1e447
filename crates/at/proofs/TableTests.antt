-- What is computed once over each table: its names and letters have room in a row, its letters say its kinds, no row stands twice, and no name of the
-- W36 rows does; and how many bytes the tables have.
use mathlib.Core.Path.{◌≡◌, refl}
use mathlib.Core.Bool.{true}
use lib.ListN.{length, take, drop}
use Rattle.text.specs.Bytes.{same}
use Rattle.at.specs.Table.{spelled}
use Rattle.at.specs.TableSteps.{roomy, Tabled}
use Rattle.at.specs.declared.w26_table.TheConstants as of26
use Rattle.at.specs.declared.w36_table.TheConstants as of36
use Rattle.at.specs.Steps.{kind_of, Legible}
use Rattle.at.specs.W26 as w26
use Rattle.at.specs.W36 as w36
use Rattle.at.specs.Line.{rows_named}
use Rattle.at.proofs.RowsLaws.{distinct}
use Rattle.at.specs.Parts.{number_in}
use Rattle.at.proofs.PartsLaws.{firsts}

pub roomy-w26 : (roomy w26.table ≡ true)
    × (roomy (take 7 w26.table) ≡ true)
    × (roomy (take 7 (drop 7 w26.table)) ≡ true)
    × (roomy (take 7 (drop 14 w26.table)) ≡ true)
    × (roomy (drop 21 w26.table) ≡ true)
unfolding roomy w26.table
roomy-w26 = (refl, refl, refl, refl, refl)

pub rows-w26 : length w26.table ≡ 26
unfolding w26.table
rows-w26 = refl

pub legible-w26 : Legible w26.table
unfolding kind_of w26.table
legible-w26 = refl

pub roomy-w36 : (roomy w36.table ≡ true) × (roomy w36.rows36 ≡ true) × (roomy (take 7 w36.table) ≡ true) × (roomy (drop 7 w36.table) ≡ true)
unfolding roomy w36.table w36.binary_table w36.rows36
roomy-w36 = (refl, refl, refl, refl)

pub roomy-binary : roomy w36.binary_table ≡ true
unfolding roomy w36.binary_table
roomy-binary = refl

pub rows-w36 : length w36.table ≡ 13
unfolding w36.table
rows-w36 = refl

pub legible-w36 : Legible w36.table
unfolding kind_of w36.table
legible-w36 = refl

pub distinct_w36 : distinct w36.table ≡ true
unfolding distinct rows_named same w36.table
distinct_w36 = refl

pub firsts_w26 : firsts w26.table 0 w26.table ≡ true
unfolding firsts number_in same w26.table
firsts_w26 = refl

pub firsts_w36 : firsts w36.rows36 0 w36.rows36 ≡ true
unfolding firsts number_in same w36.table w36.binary_table w36.rows36
firsts_w36 = refl

-- how many bytes `rows` lends, for a caller that copies or indexes them
pub lent-w26 : length (spelled w26.table) ≡ 520
unfolding spelled w26.table
lent-w26 = refl

pub lent-w36 : length (spelled w36.rows36) ≡ 300
unfolding spelled w36.table w36.binary_table w36.rows36
lent-w36 = refl

-- the bytes of the code are those of each table; of W36, the first 260 are those of its rows of text
pub bytes-w26 : Tabled w26.table of26.TABLE
unfolding spelled w26.table
bytes-w26 = record { spells = refl; rooms = roomy-w26.0 }

pub bytes-w36 : Tabled w36.table (take 260 of36.TABLE)
unfolding spelled w36.table
bytes-w36 = record { spells = refl; rooms = roomy-w36.0 }
