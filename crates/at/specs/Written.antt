-- What a write answers, and the buffer afterwards: for events and for frames.
use Rattle.std.specs.Prelude.{ℕ, List, ◌++◌, length, drop}
use Rattle.at.specs.Refusal.{OrRefused, good, refused}

-- the answer: the number of bytes written
abbrev pub answer_to : OrRefused (List ℕ) → OrRefused ℕ
answer_to (good s) = good (length s)
answer_to (refused n) = refused n

-- every byte of the buffer afterwards: what was written and then its own bytes; all its own where the write is refused
abbrev pub after : List ℕ → OrRefused (List ℕ) → List ℕ
after buf (good s) = s ++ drop (length s) buf
after buf (refused n) = buf
