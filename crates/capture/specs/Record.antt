-- The line of a record in `capture read`.
use Rattle.std.specs.Prelude.{ℕ, List, ◌++◌}
use Rattle.text.specs.Bytes.{bytes}
use Rattle.render.specs.Capture.{meaning_line}

unfoldable pub record_line : ℕ → ℕ → List ℕ → List ℕ
record_line seconds microseconds frame = meaning_line seconds microseconds frame ++ bytes "\n"
