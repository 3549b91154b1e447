-- What a line of `capture write` says: `SECONDS.MICROSECONDS HEX`, and after `#` a note. A line with nothing before its note says nothing.
use Rattle.std.specs.Prelude.{ℕ, Bool, cond, ◌&&◌, ◌||◌, List, [], ◌∷◌, length, ◌==◌, nat_le}
use Rattle.text.specs.Bytes.{bytes}
use Rattle.lines.specs.Hex.{Spelt, spells, no_hex, bytes_in}
use Rattle.lines.specs.Number.{Amount, amount, no_amount, number_in}
use Rattle.lines.specs.Cut.{Cut, cut, whole, cut_at}
use Rattle.capture.specs.declared.line.Fault.{Fault}
use Rattle.capture.specs.declared.line.Fault.TheVariants.{NoTime, NoFrame, FrameTooLong}

-- a space (32), a tab (9) or a CR (13)
abbrev pub is_blank : ℕ → Bool
is_blank b = b == 32 || (b == 9 || b == 13)

-- a text without the blanks at its end
abbrev pub and_then : ℕ → List ℕ → List ℕ
and_then b [] = cond (is_blank b) [] (b ∷ [])
and_then b (c ∷ s) = b ∷ c ∷ s

unfoldable pub trimmed : List ℕ → List ℕ
trimmed [] = []
trimmed (b ∷ s) = and_then b (trimmed s)

-- what stands before the note
abbrev pub before_note : List ℕ → Cut → List ℕ
before_note line (cut front note) = front
before_note line whole = line

unfoldable pub content : List ℕ → List ℕ
content line = trimmed (before_note line (cut_at (bytes "#") line))

-- seconds of 32 bits, a point, and six digits of microseconds
pub data Time : Type 0 where
  time : ℕ → ℕ → Time
  no_time : Time

abbrev pub time_of : Amount → Amount → Time
time_of (amount seconds) (amount microseconds) = cond (nat_le seconds 4294967295 && nat_le microseconds 999999) (time seconds microseconds) no_time
time_of (amount seconds) no_amount = no_time
time_of no_amount microseconds = no_time

abbrev pub around_point : Cut → Time
around_point (cut seconds fraction) = cond (length fraction == 6) (time_of (number_in seconds) (number_in fraction)) no_time
around_point whole = no_time

unfoldable pub stamp_in : List ℕ → Time
stamp_in s = around_point (cut_at (bytes ".") s)

-- a record to be written, nothing, or what is wrong with the line
pub data Says : Type 0 where
  says : ℕ → ℕ → List ℕ → Says
  nothing : Says
  wrong : Fault → Says

abbrev pub record_of : Time → Spelt → Says
record_of no_time frame = wrong NoTime
record_of (time seconds microseconds) no_hex = wrong NoFrame
record_of (time seconds microseconds) (spells frame) = cond (nat_le (length frame) 4099) (says seconds microseconds frame) (wrong FrameTooLong)

abbrev pub around_space : List ℕ → Cut → Says
around_space s (cut stamp frame) = record_of (stamp_in stamp) (bytes_in frame)
around_space s whole = record_of (stamp_in s) no_hex

abbrev pub said_by : List ℕ → Says
said_by [] = nothing
said_by (b ∷ s) = around_space (b ∷ s) (cut_at (bytes " ") (b ∷ s))

unfoldable pub said_in : List ℕ → Says
said_in line = said_by (content line)
