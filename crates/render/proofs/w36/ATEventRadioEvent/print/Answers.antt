use Rattle.at.specs.W36 as radio
use Rattle.at.specs.TableSteps.{Tabled}
use Rattle.at.proofs.TableTests.{roomy-w36}
use Rattle.render.specs.Event.{cases36}
use Rattle.render.proofs.PrintLaws.{◌next◌}
use Rattle.render.proofs.EventLaws.{line_of}
use Rattle.render.proofs.w36.ATEventRadioEvent.print.Goals as goal

-- `w36::ATEvent` prints the line of its event. Assumes nothing.
pub returns : goal.returns
returns c =
    let tabled : Tabled radio.rows36 c.rows.result.now = record { spells = c.rows.ensures; rooms = roomy-w36.1 } in
    let name = rw c.case_name.ensures at c.word-at.ensures in
    rw (line_of cases36 c.args.src.now (radio.event_of c.args.self)) (name next c.fields.ensures radio.rows36 _ tabled c.from.ensures)
