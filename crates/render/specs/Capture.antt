-- The lines of a capture: a record with its time and its frame's place, a whole file, and a record with its frame and what that means.
use Rattle.std.specs.Prelude.{ℕ, ◌+◌, ◌/◌, ◌%◌, List, [], ◌∷◌, ◌++◌, length}
use Prim.Native.Char.{code}
use Rattle.text.specs.Bytes.{bytes}
use Rattle.text.specs.Decimal.{decimal}
use Rattle.edm.specs.Frame.{read_frame}
use Rattle.pcap.specs.Read.{Outcome, found, end, refusal}
use Rattle.pcap.specs.File.{entry, Run, record_then, then_end, then_refused}
use Rattle.render.specs.Words.{hex_of}
use Rattle.render.specs.Refusal.{refused_line}
use Rattle.render.specs.Walk.{place_line}
use Rattle.render.specs.Frame.{frame_line}

-- a number below 10 as its digit, and a number below a million as six of them
abbrev pub one_digit : ℕ → ℕ
one_digit n = code "0" + n

abbrev pub six_digits : ℕ → List ℕ
six_digits n =
    one_digit (n / 100000 % 10)
    ∷ one_digit (n / 10000 % 10)
    ∷ one_digit (n / 1000 % 10)
    ∷ one_digit (n / 100 % 10)
    ∷ one_digit (n / 10 % 10)
    ∷ one_digit (n % 10)
    ∷ []

abbrev pub time_line : ℕ → ℕ → List ℕ
time_line seconds microseconds = decimal seconds ++ bytes "." ++ six_digits microseconds

-- a record: its time, and the place and the length of its frame
abbrev pub record_line : ℕ → ℕ → ℕ → ℕ → List ℕ
record_line seconds microseconds start len = time_line seconds microseconds ++ place_line start ++ bytes "+" ++ decimal len

-- what a reader comes to at a place: a record, the end, or a refusal with that place
abbrev pub outcome_line : ℕ → Outcome → List ℕ
outcome_line at (found seconds microseconds start len past) = record_line seconds microseconds start len
outcome_line at end = bytes "end"
outcome_line at (refusal n) = refused_line n ++ place_line at

-- a whole file, with a semicolon between two records
unfoldable pub run_line : Run → List ℕ
run_line (record_then (entry seconds microseconds frame) start r) = record_line seconds microseconds start (length frame) ++ bytes " ; " ++ run_line r
run_line then_end = bytes "end"
run_line (then_refused n at) = refused_line n ++ place_line at

-- a record by its frame: the time, the frame, and what it means
unfoldable pub meaning_line : ℕ → ℕ → List ℕ → List ℕ
meaning_line seconds microseconds frame = time_line seconds microseconds ++ bytes " " ++ hex_of frame ++ bytes " # " ++ frame_line frame (read_frame frame)
