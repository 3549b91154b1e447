use mathlib.Core.Path.{ap, ◌∙◌}
use Rattle.at.specs.Event.{up_to}
use Rattle.at.specs.W36.{table}
use Rattle.at.proofs.LineLaws.{text_read, text_unknown}
use Rattle.at.proofs.TableLaws.{row_inside}
use Rattle.at.proofs.TableTests.{distinct_w36}
use Rattle.at.proofs.RowsLaws.{lone_read}
use Rattle.at.proofs.w36.event_in.Goals as goal

-- `w36::event_in` meets its contract: the row of its name decides, or there is none. Assumes nothing.
pub returns : goal.returns
returns c =
    let f = rw c.in-Some.is at c.row_named.ensures in
    let head = c.head_of-h.ensures in
    c.event_by.ensures
    ∙ ap (up_to c.args.past)
    (lone_read _ _ _ _ table distinct_w36 f.1 f.2 ∙ text_read table _ _ _ _ (c.part.ensures ∙ head.0) head.1)

pub returns-in_default : goal.returns-in_default
returns-in_default c =
    let head = c.head_of-h.ensures in
    ap (up_to c.args.past) (text_unknown table _ _ _ (c.part.ensures ∙ head.0) (rw c.in_default.is at c.row_named.ensures))

pub event_by-requires : goal.event_by-requires
event_by-requires c =
    let f = rw c.in-Some.is at c.row_named.ensures in
    row_inside table _ f.0 f.1
