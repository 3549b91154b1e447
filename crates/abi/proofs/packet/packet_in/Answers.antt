use mathlib.Core.Path.{sym, ◌∙◌}
use Rattle.abi.specs.Given.{packet_in}
use Rattle.abi.proofs.CommandLaws.{given-short, given-refused, packet-by}
use Rattle.abi.proofs.packet.packet_in.Goals as goal

-- `packet::packet_in` meets its contract. Assumes nothing.
pub returns-then-row-lt17 : goal.returns-then-row-lt17
returns-then-row-lt17 c =
    unfold packet_in in sym (given-short c.args.row.now _ c.if-row-lt17.true)

pub returns-then-row-ne0 : goal.returns-then-row-ne0
returns-then-row-ne0 c =
    unfold packet_in in sym (given-refused c.args.row.now _ c.if-row-lt17.false c.if-row-ne0.true)

pub returns : goal.returns
returns c = c.packet_by.ensures ∙ sym (packet-by c.args.row.now c.if-row-lt17.false c.if-row-ne0.false)
