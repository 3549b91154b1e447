-- What a walk over fields has before it, for laws and for the contracts of private steps. No promise of a public function cites this file.
use Rattle.std.specs.Prelude.{ℕ, List, [], cond, leb, length, drop}
use Rattle.text.specs.Field.{Field, fields_from}
use Rattle.text.specs.declared.field.Fields.{Fields}

-- the fields of the text from the walk's place on, and none where that place lies past the text's end
unfoldable pub left : List ℕ → Fields → List Field
left s w = cond (leb w.at (length s)) (fields_from w.at (drop w.at s)) []
