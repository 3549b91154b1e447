-- The line at the end of a dump: how many frames were kept, how many of them are refused after all, and how many bytes were skipped.
use Rattle.std.specs.Prelude.{ℕ, ◌+◌, ◌*◌, ◌/◌, ◌%◌, ◌^◌, Bool, true, false, cond, List, [], ◌∷◌, ◌++◌, ◌==◌, nat_le}
use Prim.Native.Char.{code}
use Rattle.text.specs.Bytes.{bytes}
use Rattle.text.specs.Decimal.{decimal}
use Rattle.at.specs.Refusal.{OrRefused, good, refused}
use Rattle.edm.specs.Packet.{Packet}
use Rattle.edm.specs.Frame.{read_frame}
use Rattle.render.specs.Capture.{one_digit}
use Rattle.dump.specs.declared.total.Totals.{Totals}

abbrev pub refuses : OrRefused Packet → Bool
refuses (good p) = false
refuses (refused n) = true

-- the reader refuses a frame that was kept
abbrev pub is_refused : List ℕ → Bool
is_refused frame = refuses (read_frame frame)

-- a frame more, and skipped bytes more, in numbers of 64 bits
unfoldable pub counted_frame : Totals → List ℕ → Totals
counted_frame t frame = record { kept = (t.kept + 1) % 2 ^ 64; refused = cond (is_refused frame) ((t.refused + 1) % 2 ^ 64) t.refused; skipped = t.skipped }

unfoldable pub counted_skipped : Totals → ℕ → Totals
counted_skipped t n = record { kept = t.kept; refused = t.refused; skipped = (t.skipped + n) % 2 ^ 64 }

-- hundredths of a percent, rounded down; a part that has no room for four digits more is divided by a ten-thousandth of the whole
unfoldable pub hundredths : ℕ → ℕ → ℕ
hundredths part whole = cond (whole == 0) 0 (cond (nat_le part 1844674407370955) (part * 10000 / whole) (part / (whole / 10000 + 1)))

-- with two digits after the point
abbrev pub percent_line : ℕ → List ℕ
percent_line n = decimal (n / 100) ++ (code "." ∷ one_digit (n / 10 % 10) ∷ one_digit (n % 10) ∷ code "%" ∷ [])

abbrev pub frames_line : Totals → List ℕ
frames_line t = bytes "total: kept " ++ decimal t.kept ++ bytes ", " ++ decimal t.refused ++ bytes " of them refused; skipped "

unfoldable pub total_line : Totals → ℕ → List ℕ
total_line t size = frames_line t ++ decimal t.skipped ++ bytes " of " ++ decimal size ++ bytes " bytes (" ++ percent_line (hundredths t.skipped size) ++ bytes ")\n"
