use Rattle.text.proofs.FindLaws.{to_end}
use mathlib.Core.List.{[], ◌∷◌}
use mathlib.Core.Path.{◌∙◌}
use Rattle.text.proofs.find.far_byte.Goals as goal

pub returns : goal.returns
returns c = to_end (c.args.b ∷ []) c.args.s.now c.args.from c.byte_before-2.result (c.byte_before.ensures ∙ rw c.in_default.is (c.past_blocks.ensures.1 ∙ c.byte_before-2.ensures))
