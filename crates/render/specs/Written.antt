-- The line of what a writer wrote into a target: how many bytes, and they; or its refusal.
use Rattle.std.specs.Prelude.{ℕ, List, ◌++◌, Result, Ok, Err}
use Rattle.text.specs.Bytes.{bytes, part}
use Rattle.text.specs.Decimal.{decimal}
use Rattle.at.specs.Refusal.{number_of, OrRefused, good, refused}
use Rattle.render.specs.Words.{hex_of}

abbrev pub wrote_line : List ℕ → ℕ → List ℕ
wrote_line target n = bytes "wrote " ++ decimal n ++ bytes " " ++ hex_of (part target 0 n)

-- `refusal` is the line of a refusal: `refused_line` for an event, `frame_refused_line` for a frame
abbrev pub written_line : (ℕ → List ℕ) → List ℕ → OrRefused ℕ → List ℕ
written_line refusal target (good n) = wrote_line target n
written_line refusal target (refused n) = refusal (number_of n)

-- the same of a writer's answer itself, where it is known what line a refusal has
abbrev pub written_by : {E : Type 0} → (E → List ℕ) → List ℕ → Result ℕ E → List ℕ
written_by refusal target (Ok n) = wrote_line target n
written_by refusal target (Err e) = refusal e
