-- The table as the machine has it.
use Rattle.std.specs.Prelude.{ℕ, List, get_or}
use Rattle.channels.specs.declared.cell.Row.{Row}
use Rattle.channels.specs.declared.cell.Counts.{Counts}
use Rattle.channels.specs.declared.Channels.{Channels}
use Rattle.channels.specs.Machine.{Machine}

-- the row of a channel, out of the arrays
abbrev pub row_in : List ℕ → List ℕ → List ℕ → List ℕ → ℕ → Row
row_in kind high low port c = record { kind = get_or kind c 0; high = get_or high c 0; low = get_or low c 0; port = get_or port c 0 }

abbrev pub counts_of : ℕ → ℕ → ℕ → ℕ → Counts
counts_of reopened reclosed stray refused = record { reopened = reopened; reclosed = reclosed; stray = stray; refused = refused }

abbrev pub machine_of : List ℕ → List ℕ → List ℕ → List ℕ → Counts → Machine
machine_of kind high low port counts = record { rows = row_in kind high low port; counts = counts }

abbrev pub view : Channels → Machine
view t = machine_of t.kind t.high t.low t.port (counts_of t.reopened t.reclosed t.stray t.refused)
