use Rattle.render.proofs.PrintLaws.{◌next◌}
use Rattle.render.proofs.w36.step.Goals as goal

-- `w36::step` meets its contract. Assumes nothing.
pub returns-in-Ok-Some : goal.returns-in-Ok-Some
returns-in-Ok-Some c =
    let some = rw c.in-Ok-Some.is at c.in-Ok-Some.field-0-is in
    rw (c.in-Ok-Some.is, some) (c.print-at.ensures next c.place_after.ensures)
