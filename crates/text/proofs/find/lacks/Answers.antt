use mathlib.Core.Path.{sym, ◌∙◌}
use Rattle.text.proofs.Bools.{not_same}
use Rattle.text.proofs.FindLaws.{lacks_first}
use Rattle.text.proofs.find.lacks.Goals as goal

pub returns : goal.returns
returns c = not_same _ _ (sym c.is_none.ensures ∙ rw c.first_byte.ensures (lacks_first c.args.b c.args.s.now))
