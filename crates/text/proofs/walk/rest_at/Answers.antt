use mathlib.Core.Path.{sym, ◌∙◌, ap}
use Rattle.text.specs.Field.{place_after, rest_at}
use Rattle.text.proofs.walk.rest_at.Goals as goal

pub returns-in-Some : goal.returns-in-Some
unfolding rest_at
returns-in-Some c = ap (place_after c.args.at) (sym c.in-Some.is ∙ c.next.ensures)

pub returns-in-None : goal.returns-in-None
unfolding rest_at
returns-in-None c = ap (place_after c.args.at) (sym c.in-None.is ∙ c.next.ensures)
