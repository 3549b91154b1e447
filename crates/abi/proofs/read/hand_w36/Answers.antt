use mathlib.Core.Path.{sym}
use mathlib.Core.List.{◌∷◌}
use Rattle.at.specs.Event.{event_to}
use Rattle.at.specs.W36.{rows36, event_of}
use Rattle.abi.specs.Row.{read_numbers}
use Rattle.abi.proofs.RowLaws.{handed-short}
use Rattle.abi.proofs.ReadLaws.{event-handed}
use Rattle.abi.proofs.read.hand_w36.Goals as goal

-- `read::hand_w36` meets its contract. Assumes nothing.
pub returns-then-row-ge17 : goal.returns-then-row-ge17
returns-then-row-ge17 c =
    event-handed rows36 (event_of c.args.e) _ c.args.past c.args.row.now _ _ c.if-row-ge17.true c.put_w36-to.ensures c.event_to.ensures.1

pub returns-else-row-ge17 : goal.returns-else-row-ge17
returns-else-row-ge17 c =
    sym (handed-short c.args.row.now (0 ∷ read_numbers rows36 (event_to (event_of c.args.e) c.args.past)) c.if-row-ge17.false)
