use Rattle.at.specs.W26 as radio
use Rattle.at.specs.TableSteps.{Tabled}
use Rattle.at.proofs.TableTests.{roomy-w26}
use Rattle.render.specs.Event.{cases26}
use Rattle.render.proofs.PrintLaws.{◌next◌}
use Rattle.render.proofs.EventLaws.{line_of}
use Rattle.render.proofs.w26.ATEventRadioEvent.print.Goals as goal

-- `w26::ATEvent` prints the line of its event. Assumes nothing.
pub returns : goal.returns
returns c =
    let tabled : Tabled radio.table c.rows.result.now = record { spells = c.rows.ensures; rooms = roomy-w26.0 } in
    let name = rw c.case_name.ensures at c.word-at.ensures in
    rw (line_of cases26 c.args.src.now (radio.event_of c.args.self)) (name next c.fields.ensures radio.table _ tabled c.from.ensures)
