-- The line that answers a line, and the table afterwards.
use Rattle.std.specs.Prelude.{ℕ, zero, suc, ◌/◌, ◌%◌, ◌≤◌, ◌≡◌, List, [], ◌++◌, cond, length}
use Rattle.text.specs.Bytes.{bytes}
use Rattle.text.specs.Decimal.{decimal}
use Rattle.edm.specs.Frame.{read_frame}
use Rattle.render.specs.Frame.{frame_line}
use Rattle.render.specs.Print.{Prints}
use Rattle.channels.specs.declared.cell.Row.{Row}
use Rattle.channels.specs.declared.cell.Counts.{Counts}
use Rattle.channels.specs.Machine.{Machine, is_closed, step}
use Rattle.commission.specs.Question.{Asked, feeds, asks_row, asks_rows, asks_counts, nothing}

-- the four bytes of an address, which is a number
abbrev pub dotted : ℕ → List ℕ
dotted n = decimal (n / 16777216 % 256) ++ bytes "." ++ decimal (n / 65536 % 256) ++ bytes "." ++ decimal (n / 256 % 256) ++ bytes "." ++ decimal (n % 256)

abbrev pub remote_line : Row → List ℕ
remote_line row = bytes "open ipv4 " ++ dotted row.low ++ bytes " " ++ decimal row.port

unfoldable pub row_line : ℕ → Row → List ℕ
row_line channel row = decimal channel ++ bytes " " ++ cond (is_closed row) (bytes "closed") (remote_line row)

-- a line for a row, if it is open; and those of the first n channels, in order
unfoldable pub open_row : ℕ → Row → List ℕ
open_row channel row = cond (is_closed row) [] (row_line channel row ++ bytes "\n")

unfoldable pub open_rows : Machine → ℕ → List ℕ
open_rows m zero = []
open_rows m (suc n) = open_rows m n ++ open_row n (m.rows n)

abbrev pub changes_line : Counts → List ℕ
changes_line n = bytes "reopened " ++ decimal n.reopened ++ bytes " closed " ++ decimal n.reclosed

unfoldable pub counts_line : Counts → List ℕ
counts_line n = changes_line n ++ bytes " stray " ++ decimal n.stray ++ bytes " refused " ++ decimal n.refused

-- a frame is answered with what it means, as `judge` prints it
abbrev pub reply : Machine → Asked → List ℕ
reply m (feeds frame) = frame_line frame (read_frame frame)
reply m (asks_row c) = row_line c (m.rows c)
reply m asks_rows = open_rows m 256 ++ bytes "end"
reply m asks_counts = counts_line m.counts
reply m nothing = bytes "what?"

-- only a frame changes the table
abbrev pub after : Machine → Asked → Machine
after m (feeds frame) = step m frame
after m (asks_row c) = m
after m asks_rows = m
after m asks_counts = m
after m nothing = m

-- the answer as it is written, with its line end
abbrev pub answer_line : Machine → Asked → List ℕ
answer_line m a = reply m a ++ bytes "\n"

-- the answer, which is not long, is printed at a place of the output, and the table is what it then is
pub record Replies (m : Machine) (a : Asked) (output : List ℕ) (place : ℕ) (later : Machine) (past : ℕ) (exit : List ℕ) : Type 0 where
  pub prints : Prints output place (reply m a) past exit
  pub few : length (reply m a) ≤ 16534
  pub leads : later ≡ after m a
