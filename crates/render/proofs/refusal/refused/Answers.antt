use Rattle.render.specs.Refusal.{refused_line}
use Rattle.render.proofs.PrintLaws.{◌next◌}
use Rattle.render.proofs.refusal.refused.Goals as goal

-- `refusal::refused` meets its contract. Assumes nothing.
pub returns : goal.returns
unfolding refused_line
returns c = c.word-at.ensures next (rw c.refusal_name.ensures at c.word.ensures)
