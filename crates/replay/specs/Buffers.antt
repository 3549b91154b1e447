-- The sizes of the program's buffers: the output, the bytes that a line spells, and what is written into.
use Rattle.std.specs.Prelude.{◌≡◌, ℕ, List, length}

abbrev pub Buffers : List ℕ → List ℕ → List ℕ → Type 0
Buffers output bytes target = (length output ≡ 524288) × (length bytes ≡ 131072) × (length target ≡ 131072)
