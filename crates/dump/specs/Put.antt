-- What is put into the output for a range of a dump: a line, or for a frame a record of a capture.
use Rattle.std.specs.Prelude.{ℕ, ◌-◌, ◌/◌, ◌%◌, true, false, cond, List, [], ◌++◌, length, ◌==◌, nat_le}
use Rattle.text.specs.Bytes.{bytes}
use Rattle.edm.specs.Frame.{read_frame}
use Rattle.pcap.specs.Layout.{record_bytes}
use Rattle.pcap.specs.declared.ByteOrder.TheVariants.{Little}
use Rattle.render.specs.Frame.{frame_line}
use Rattle.render.specs.Range.{range_line}
use Rattle.dump.specs.Total.{total_line}
use Rattle.dump.specs.declared.total.Totals.{Totals}
use Rattle.dump.specs.declared.put.Form.{Form}
use Rattle.dump.specs.declared.put.Form.TheVariants as form

-- a frame at a place, as a record: the place in microseconds is its time. No record has more than 4,099 bytes, and seconds are a u32
unfoldable pub record_at : ℕ → List ℕ → List ℕ
record_at place frame = cond (nat_le (length frame) 4099) (record_bytes Little (place / 1000000 % 4294967296) (place % 1000000) frame) []

-- a frame that is kept at a place
unfoldable pub kept_bytes : Form → ℕ → List ℕ → List ℕ
kept_bytes form.Lines place frame = range_line (record { start = place; len = length frame; kept = true }) ++ bytes " " ++ frame_line frame (read_frame frame) ++ bytes "\n"
kept_bytes form.Capture place frame = record_at place frame

-- bytes that are skipped up to a place
unfoldable pub skipped_bytes : Form → ℕ → ℕ → List ℕ
skipped_bytes form.Lines end len = cond (len == 0) [] (range_line (record { start = end - len; len = len; kept = false }) ++ bytes "\n")
skipped_bytes form.Capture end len = []

-- a frame that is kept at a place, after bytes that are skipped up to there
abbrev pub frame_bytes : Form → ℕ → ℕ → List ℕ → List ℕ
frame_bytes f place skipped frame = skipped_bytes f place skipped ++ kept_bytes f place frame

-- what was counted, at the end of a dump of this size
unfoldable pub total_bytes : Form → Totals → ℕ → List ℕ
total_bytes form.Lines t size = total_line t size
total_bytes form.Capture t size = []
