-- What the private steps of the code say. No promise that a reader needs cites this file.
use Rattle.std.specs.Prelude.{ℕ, List, Option, Some, None}
use Rattle.text.specs.Bytes.{part}
use Rattle.commission.specs.declared.question.Question.{Question}
use Rattle.commission.specs.declared.question.Question.TheVariants as question
use Rattle.commission.specs.Question.{Asked, feeds, asks_row, asks_rows, asks_counts, nothing}

-- the frame's bytes stand at the start of the buffer
abbrev pub asked_of : List ℕ → Option Question → Asked
asked_of buffer (Some (question.Frame n)) = feeds (part buffer 0 n)
asked_of buffer (Some (question.Row c)) = asks_row c.0
asked_of buffer (Some question.Rows) = asks_rows
asked_of buffer (Some question.Counts) = asks_counts
asked_of buffer None = nothing
