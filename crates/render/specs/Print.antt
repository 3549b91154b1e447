-- Printing at a place of a lent buffer: as many bytes as fit, so that what is printed next goes on after them.
use Rattle.std.specs.Prelude.{ℕ, ◌+◌, ◌-◌, ◌≡◌, List, length, take}
use Rattle.text.specs.Put.{placed}

-- as many of the bytes as the buffer has room for from a place on
abbrev pub fitting : List ℕ → ℕ → List ℕ → List ℕ
fitting buf at ds = take (length buf - at) ds

-- these bytes are printed at a place: the answer is the place just past those that fit, and the buffer has them there and is otherwise as it was
pub record Prints (buf : List ℕ) (at : ℕ) (ds : List ℕ) (to : ℕ) (exit : List ℕ) : Type 0 where
  pub reaches : to ≡ at + length (fitting buf at ds)
  pub leaves : exit ≡ placed buf at (fitting buf at ds)
