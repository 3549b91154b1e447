-- Where a line ends, a line without the CR at its end, a buffer whose kept bytes were moved to its front, and one after a read.
use Rattle.std.specs.Prelude.{ℕ, ◌-◌, ◌≤◌, min, ◌≡◌, List, ◌++◌, cond, length, take, drop, Option, Some, None, Result, Ok, Err}
use Rattle.text.specs.Bytes.{bytes, same}
use Rattle.text.specs.Find.{first_from}
use Rattle.lines.specs.declared.input.Unread.{Unread}

-- the place that was found, or else
abbrev pub place_or : ℕ → Option ℕ → ℕ
place_or other (Some i) = i
place_or other None = other

-- the place of the first line end from a place on, or the end of the text
abbrev pub line_end : List ℕ → ℕ → ℕ
line_end s from = place_or (length s) (first_from (bytes "\n") s from)

-- a CR (13) at the line's end does not count
unfoldable pub without_cr : List ℕ → List ℕ
without_cr line = cond (same (drop (length line - 1) line) (bytes "\r")) (take (length line - 1) line) line

abbrev pub with_front : List ℕ → List ℕ → List ℕ
with_front buf front = front ++ drop (length front) buf

-- a read that goes after the first `kept` bytes of a buffer: these stay as they are, and `count` bytes are at hand, these and what was read. It is so
-- where the system fails to read too
pub record ReadAfter (buf : List ℕ) (kept count : ℕ) (exit : List ℕ) : Type 0 where
  pub stays : take kept exit ≡ take kept buf
  pub keeps : min kept (length buf) ≤ count
  pub fits : count ≤ length buf

-- how many bytes are at hand after a read, also after one that failed
abbrev pub at_hand : Result ℕ Unread → ℕ
at_hand (Ok count) = count
at_hand (Err u) = u.count
