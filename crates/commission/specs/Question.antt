-- What a line asks:
--   frame HEX   feed this frame in
--   row N       the row of a channel, 0 to 255
--   rows        the rows of all open channels
--   counts      what was counted
use Rattle.std.specs.Prelude.{ℕ, List, Bool, cond, leb, length}
use Rattle.text.specs.Bytes.{bytes, same}
use Rattle.lines.specs.Cut.{Cut, cut, whole, cut_at}
use Rattle.lines.specs.Hex.{Spelt, spells, no_hex, bytes_in}
use Rattle.lines.specs.Input.{without_cr}
use Rattle.lines.specs.Number.{Amount, amount, no_amount, number_in}

pub data Asked : Type 0 where
  feeds : List ℕ → Asked
  asks_row : ℕ → Asked
  asks_rows asks_counts nothing : Asked

abbrev pub of_hex : Spelt → Asked
of_hex (spells frame) = feeds frame
of_hex no_hex = nothing

abbrev pub of_number : Amount → Asked
of_number (amount n) = cond (leb n 255) (asks_row n) nothing
of_number no_amount = nothing

abbrev pub with_rest : Cut → Asked
with_rest (cut word rest) = cond (same word (bytes "frame")) (of_hex (bytes_in rest)) (cond (same word (bytes "row")) (of_number (number_in rest)) nothing)
with_rest whole = nothing

unfoldable pub asked : List ℕ → Asked
asked line = cond (same line (bytes "rows")) asks_rows (cond (same line (bytes "counts")) asks_counts (with_rest (cut_at (bytes " ") line)))

-- a line of more than 16,384 bytes, some of which may be gone when its end is read, asks nothing; a CR at the end does not count
unfoldable pub asked_in : Bool → List ℕ → Asked
asked_in gone line = cond gone nothing (cond (leb (length line) 16384) (asked (without_cr line)) nothing)
