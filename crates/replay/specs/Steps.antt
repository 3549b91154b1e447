-- What the private steps of the code say. No promise that a reader needs cites this file.
use Rattle.std.specs.Prelude.{ℕ, ◌≡◌, List, map, Option, Some, None}
use denote.Ref.{Bor}
use Rattle.text.specs.Bytes.{bytes}
use Rattle.replay.specs.declared.question.Explained.{Explained}
use Rattle.replay.specs.declared.question.Kind.{Kind}
use Rattle.replay.specs.declared.question.Word as code
use Rattle.replay.specs.declared.question.Question.{Question}
use Rattle.replay.specs.declared.question.Question.TheVariants as question
use Rattle.replay.specs.Question.{Word, ◌asks◌, KindName, ◌names◌, Sized, sized, unsized, Asked, reads, writes, resends, nothing}

-- a name beside what it means, in a table of the code and in one of the definitions
abbrev pub held : {T : Type 0} → code.Word T → List ℕ × T
held w = (w.0.now, w.1)

abbrev pub of_word : Word → List ℕ × Kind
of_word (word asks k) = (bytes word, k)

abbrev pub of_name : KindName → List ℕ × Explained
of_name (kind names x) = (bytes kind, x)

-- the same table
abbrev pub Says : List (code.Word Kind) → List Word → Type 0
Says rows table = map held rows ≡ map of_word table

abbrev pub SaysKinds : List (code.Word Explained) → List KindName → Type 0
SaysKinds rows table = map held rows ≡ map of_name table

-- what the answers about a text say
abbrev pub sized_of : Option (ℕ × Bor (List ℕ)) → Sized
sized_of (Some p) = sized p.0 p.1.now
sized_of None = unsized

abbrev pub asked_of : Option Question → Asked
asked_of (Some (question.Read r hex)) = reads r hex.now
asked_of (Some (question.Write w size hex)) = writes w size hex.now
asked_of (Some (question.Resend size)) = resends size
asked_of None = nothing
