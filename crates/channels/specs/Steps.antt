-- What the private steps of the code say. No promise that a reader needs cites this file.
use Rattle.std.specs.Prelude.{ℕ, ◌≡◌, List, length}
use Rattle.channels.specs.declared.cell.Cell.{Cell}
use Rattle.channels.specs.declared.arrival.Arrival as code
use Rattle.channels.specs.declared.arrival.Arrival.TheVariants as is
use Rattle.channels.specs.Machine.{Arrival, connects, disconnects, has_data, other, is_refused, Machine, stepped}

abbrev pub arrival_of : code.Arrival → Arrival
arrival_of (is.Connect c row) = connects c.0 row
arrival_of (is.Disconnect c) = disconnects c.0
arrival_of (is.Data c) = has_data c.0
arrival_of is.Other = other
arrival_of is.Refused = is_refused

-- the channel that an arrival is about, or 0
abbrev pub channel_of : Arrival → ℕ
channel_of (connects c row) = c
channel_of (disconnects c) = c
channel_of (has_data c) = c
channel_of other = 0
channel_of is_refused = 0

-- one row and the counts of a machine; and a machine with that row at every channel
abbrev pub cell_at : Machine → ℕ → Cell
cell_at m c = record { row = m.rows c; counts = m.counts }

abbrev pub everywhere : Cell → Machine
everywhere x = record { rows = λ c. x.row; counts = x.counts }

-- the row of the channel that the arrival is about, and the counts, one step later
unfoldable pub next_cell : Cell → Arrival → Cell
next_cell x a = cell_at (stepped (everywhere x) a) (channel_of a)

-- the arrays of a table: behind a reference an array's length is known only to whoever holds the table
abbrev pub Whole : List ℕ → List ℕ → List ℕ → List ℕ → Type 0
Whole kind high low port = (length kind ≡ 256) × (length high ≡ 256) × (length low ≡ 256) × (length port ≡ 256)
