-- An explanation that is the right one has the line that its input's checks and the reader's answer give; and the line of an explained answer is that of
-- its explanation, whatever was read.
use Prim.Native.Nat.{ℕ}
use mathlib.Core.Path.{◌≡◌, refl}
use mathlib.Core.List.{List}
use Rattle.std.specs.Prelude.{Result, Ok, Err}
use Rattle.at.specs.Refusal.{Refusal, number_of, OrRefused}
use Rattle.at.specs.Event.{ReadEvent}
use Rattle.at.specs.Binary as reader
use Rattle.checks.specs.Check.{Check}
use Rattle.checks.specs.Binary.{Binary, not_binary, binary}
use Rattle.checks.specs.Part.{Part}
use Rattle.checks.specs.Explained.{Explanation, Explains, IfBinary, none, some, ExplainsBinary, shown}
use Rattle.checks.specs.declared.Accepted.{Accepted}
use Rattle.checks.specs.declared.Refused.{Refused}
use Rattle.render.specs.Explained.{explained_line, explained_by, binary_line, explains_line, explains_binary_line}

pub explains_line_lem : {A : Type 0} {checks : List Check} {answer : OrRefused A} {parts : A → List Part} {x : Explanation A} → Explains checks answer parts x
    → explained_line x ≡ explains_line checks answer parts
explains_line_lem e = rw (e.names, e.places)

pub explains_binary_line_lem : (b : Binary) (t : reader.Tried) (parts : ReadEvent → List Part) (x : IfBinary) → ExplainsBinary b t parts x
    → binary_line x ≡ explains_binary_line b t parts
explains_binary_line_lem not_binary t parts x e = rw e.0
explains_binary_line_lem (binary checks) t parts none e = absurd e
explains_binary_line_lem (binary checks) reader.not_binary parts (some x) e = absurd e
explains_binary_line_lem (binary checks) (reader.tried a) parts (some x) e = explains_line_lem e

pub explained_by_lem : {A B E : Type 0} (value : A → B) (refusal : E → Refusal) (src : List ℕ) (a : Result (Accepted A) (Refused E))
    → explained_by (λ e. number_of (refusal e)) src a ≡ explained_line (shown value refusal src a)
explained_by_lem value refusal src (Ok a) = refl
explained_by_lem value refusal src (Err r) = refl
