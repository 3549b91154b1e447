use mathlib.Core.Path.{◌≡◌, refl}
use mathlib.Core.List.{[]}
use Rattle.std.specs.Prelude.{Option, Some, None, Ok}
use Rattle.at.specs.W36.{shown_binary}
use Rattle.at.specs.declared.ReadEvent.{ReadEvent}
use Rattle.at.specs.declared.w36.ATEvent.{ATEvent}
use Rattle.render.specs.Why.{tried_carries}
use Rattle.render.proofs.PrintLaws.{prints-none, ◌next◌}
use Rattle.render.proofs.why.binary.Goals as goal

-- `why::binary` meets its contract. Assumes nothing.
nothing_carried : (r : Option (ReadEvent ATEvent)) → tried_carries (shown_binary (Ok r)) ≡ []
nothing_carried (Some r) = refl
nothing_carried None = refl

pub returns-in-Ok : goal.returns-in-Ok
returns-in-Ok c =
    let printed = rw c.in-Ok.is at c.binary_answer-at.ensures in
    rw (c.in-Ok.is, nothing_carried c.in-Ok.field-0) (printed next prints-none _ _)

pub returns-in-Err : goal.returns-in-Err
returns-in-Err c = rw c.in-Err.is ((rw c.in-Err.is at c.binary_answer-at.ensures) next c.of_at.ensures)
