-- A whole capture: its records written one after the other, and read one after the other up to the end or to a refusal.
use Rattle.std.specs.Prelude.{ℕ, zero, suc, ◌+◌, ◌-◌, ◌≤◌, ◌<◌, List, [], ◌∷◌, ◌++◌, length}
use Rattle.text.specs.Bytes.{part}
use Rattle.pcap.specs.Layout.{header_bytes, record_bytes}
use Rattle.pcap.specs.Read.{Head, head, no_head, read_header, Outcome, found, end, refusal, read_record}
use Rattle.pcap.specs.declared.ByteOrder.{ByteOrder}

-- seconds, microseconds and frame
pub data Entry : Type 0 where
  entry : ℕ → ℕ → List ℕ → Entry

abbrev pub entry_bytes : ByteOrder → Entry → List ℕ
entry_bytes o (entry seconds microseconds frame) = record_bytes o seconds microseconds frame

-- what can be written: seconds of 32 bits, microseconds of one second, a frame of at most 4,099 bytes
abbrev pub Fits : Entry → Type 0
Fits (entry seconds microseconds frame) = (seconds < 4294967296) × (microseconds ≤ 999999) × (length frame ≤ 4099)

abbrev pub AllFit : List Entry → Type 0
AllFit [] = Unit {0}
AllFit (e ∷ es) = Fits e × AllFit es

unfoldable pub records : ByteOrder → List Entry → List ℕ
records o [] = []
records o (e ∷ es) = entry_bytes o e ++ records o es

abbrev pub file : ByteOrder → List Entry → List ℕ
file o es = header_bytes o ++ records o es

-- what a reader comes to: records, each with the place of its frame, and then the end, or a refusal with the place where that record begins
pub data Run : Type 0 where
  record_then : Entry → ℕ → Run → Run
  then_end : Run
  then_refused : ℕ → ℕ → Run

abbrev pub go_on : List ℕ → ℕ → Outcome → (ℕ → Run) → Run
go_on s at (found seconds microseconds start len past) more = record_then (entry seconds microseconds (part s start len)) start (more past)
go_on s at end more = then_end
go_on s at (refusal n) more = then_refused n at

-- the records from a place on, in at most n steps
unfoldable pub run_from : ℕ → ByteOrder → List ℕ → ℕ → Run
run_from zero o s at = then_end
run_from (suc n) o s at = go_on s at (read_record o s at) (λ past. run_from n o s past)

-- as many steps as there are bytes left are enough, since each record takes 16 bytes or more: a run is one record and then the run from there on
-- (`run_on`)
unfoldable pub run_at : ByteOrder → List ℕ → ℕ → Run
run_at o s at = run_from (length s - at) o s at

-- a whole file: the records from byte 24 on, or the refusal of the header, which begins at 0
abbrev pub after_head : List ℕ → Head → Run
after_head s (head o ours) = run_at o s 24
after_head s (no_head n) = then_refused n 0

unfoldable pub read_file : List ℕ → Run
read_file s = after_head s (read_header s)

-- these records, the first of them at a place, and then the end
abbrev pub whole : ℕ → List Entry → Run
whole at [] = then_end
whole at (entry seconds microseconds frame ∷ es) = record_then (entry seconds microseconds frame) (at + 16) (whole (at + 16 + length frame) es)
