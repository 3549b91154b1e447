-- What the private steps of the code say. No promise of a public function cites this file.
use Rattle.std.specs.Prelude.{ℕ, List, [], ◌∷◌, ◌++◌, Bool, Option, Some, None, map, cond}
use Rattle.text.specs.Find.{crlf}
use Rattle.at.specs.Refusal.{OrRefused, refused, no}
use Rattle.at.specs.Event.{Value}
use Rattle.at.specs.Parts.{value_of}
use Rattle.at.specs.declared.parts.Value as code
use Rattle.writer.specs.Line.{contents_of, written, after_name, ending}
use Rattle.writer.specs.Write.{writable_end, fitted}
use Rattle.writer.specs.declared.line.Line.{Line}

-- the fields as they are written
abbrev pub texts : List ℕ → List code.Value → List (List ℕ)
texts src fields = map written (contents_of src (map value_of fields))

-- the data of a binary event, or none
abbrev pub data_in : Option code.Value → List Value
data_in None = []
data_in (Some v) = value_of v ∷ []

-- the end of a line, and all of it
unfoldable pub ends : Line → List ℕ
ends l = ending (contents_of l.src.now (data_in l.data))

unfoldable pub bytes_of : Line → List ℕ
bytes_of l = crlf ++ l.name.now ++ after_name (texts l.src.now l.fields.now) ++ ends l

abbrev pub can_be_written : Line → Bool
can_be_written l = writable_end l.src.now (map value_of l.fields.now) (data_in l.data)

-- what is to be written of it
abbrev pub write_as : ℕ → Line → OrRefused (List ℕ)
write_as size l = cond (can_be_written l) (fitted size (bytes_of l)) (refused (no 17))
