-- The line of an event is the name of its case and then its fields; a row's fields are found by its number.
use Prim.Native.Nat.{ℕ}
use mathlib.Core.Path.{◌≡◌, refl}
use mathlib.Core.List.{List, ◌++◌}
use Rattle.at.specs.Event.{Event, event}
use Rattle.render.specs.Event.{Case, event_line}
use Rattle.render.specs.Steps.{case_word, fields_line}

pub line_of : (cases : List Case) (src : List ℕ) (e : Event) → event_line cases src e ≡ case_word cases e ++ fields_line src e
line_of cases src (event r vs) = refl
