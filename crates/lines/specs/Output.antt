-- Output that is collected in a buffer of 131,072 bytes.
use Rattle.std.specs.Prelude.{ℕ, ◌+◌, ◌≡◌, List, cond, leb, length}
use Rattle.text.specs.Put.{placed}
use Rattle.lines.specs.declared.output.Out.{Out}

-- where it goes on: after what is to be written or, where that may leave no room and is written first, at the start. Past a limit there may be no room
abbrev pub goes_on_below : ℕ → ℕ → ℕ
goes_on_below limit count = cond (leb count limit) count 0

abbrev pub goes_on_at : ℕ → ℕ
goes_on_at count = goes_on_below 114000 count

-- the bytes r stand there, are counted, and every other byte of the output is as it was
pub record Holds (output : List ℕ) (before : Out) (r : List ℕ) (after : Out) (exit : List ℕ) : Type 0 where
  pub counts : after.count ≡ goes_on_at before.count + length r
  pub leaves : exit ≡ placed output (goes_on_at before.count) r
