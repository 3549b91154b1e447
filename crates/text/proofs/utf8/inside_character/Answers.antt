use mathlib.Core.Path.{◌∙◌}
use Rattle.text.proofs.Utf8Laws.{byte_inside}
use Rattle.text.proofs.utf8.inside_character.Goals as goal

pub returns : goal.returns
returns c = c.byte_in.ensures ∙ byte_inside c.args.s.now c.args.place
