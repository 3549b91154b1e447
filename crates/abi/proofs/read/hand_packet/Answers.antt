use mathlib.Core.Path.{sym, ◌∙◌}
use mathlib.Core.List.{◌∷◌}
use Rattle.edm.specs.Packet.{packet_of}
use Rattle.abi.specs.Row.{packet_numbers}
use Rattle.abi.proofs.RowLaws.{handed_long, handed-short}
use Rattle.abi.proofs.read.hand_packet.Goals as goal

-- `read::hand_packet` meets its contract. Assumes nothing.
pub returns-then-row-ge17 : goal.returns-then-row-ge17
returns-then-row-ge17 c = c.put_packet.ensures ∙ sym (handed_long c.args.row.now (0 ∷ packet_numbers (packet_of c.args.p)) c.if-row-ge17.true)

pub returns-else-row-ge17 : goal.returns-else-row-ge17
returns-else-row-ge17 c = sym (handed-short c.args.row.now (0 ∷ packet_numbers (packet_of c.args.p)) c.if-row-ge17.false)
