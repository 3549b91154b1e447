use mathlib.Core.Path.{◌∙◌}
use Rattle.text.proofs.BytesLaws.{pointwise_same}
use Rattle.text.proofs.bytes.same.Goals as goal

pub returns : goal.returns
returns c = c.eq.ensures ∙ pointwise_same c.args.a.now c.args.b.now
