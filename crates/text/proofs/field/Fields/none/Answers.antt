use mathlib.Core.Path.{refl}
use Rattle.text.specs.Field.{no_fields}
use Rattle.text.proofs.field.Fields.none.Goals as goal

pub returns : goal.returns
unfolding no_fields
returns c = refl
