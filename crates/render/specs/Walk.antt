-- The lines of a binary event, of a step of a walk and of a whole walk over one W36 read.
use Rattle.std.specs.Prelude.{ℕ, List, ◌++◌}
use Rattle.text.specs.Bytes.{bytes}
use Rattle.text.specs.Decimal.{decimal}
use Rattle.at.specs.Refusal.{number_of}
use Rattle.at.specs.Binary.{Tried, not_binary, tried}
use Rattle.at.specs.Walk.{Step, one, end, refused_at, Walk, event_then, then_end, then_refused}
use Rattle.render.specs.Refusal.{refused_line}
use Rattle.render.specs.Event.{cases36, event_line, answer_line}

abbrev pub tried_line : List ℕ → Tried → List ℕ
tried_line src (tried a) = answer_line cases36 src a
tried_line src not_binary = bytes "notbinary"

abbrev pub place_line : ℕ → List ℕ
place_line p = bytes " @" ++ decimal p

-- an event with the place just past it, the end, or a refusal with the place where the refused event begins
abbrev pub step_line : List ℕ → Step → List ℕ
step_line src (one e past) = event_line cases36 src e ++ place_line past
step_line src end = bytes "end"
step_line src (refused_at n p) = refused_line (number_of n) ++ place_line p

-- every step, with a semicolon between two
unfoldable pub walk_line : List ℕ → Walk → List ℕ
walk_line src (event_then e past w) = step_line src (one e past) ++ bytes " ; " ++ walk_line src w
walk_line src then_end = step_line src end
walk_line src (then_refused n p) = step_line src (refused_at n p)
