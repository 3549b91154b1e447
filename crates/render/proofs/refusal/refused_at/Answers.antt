use Rattle.render.proofs.PrintLaws.{◌next◌}
use Rattle.render.proofs.refusal.refused_at.Goals as goal

-- `refusal::refused_at` meets its contract. Assumes nothing.
pub returns : goal.returns
returns g c = c.print-at.ensures next c.place_after.ensures
