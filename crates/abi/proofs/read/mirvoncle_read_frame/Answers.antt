use Rattle.edm.specs.Frame.{read_frame}
use Rattle.abi.specs.Row.{packet_numbers}
use Rattle.abi.proofs.Numbers.{frame_ok}
use Rattle.abi.proofs.RowLaws.{short}
use Rattle.abi.proofs.ReadLaws.{handed-by-number}
use Rattle.abi.proofs.read.mirvoncle_read_frame.Goals as goal

-- `mirvoncle_read_frame` meets its contract. Assumes nothing.
pub returns-then-row-lt17 : goal.returns-then-row-lt17
returns-then-row-lt17 c = short _ _ c.if-row-lt17.true

pub returns : goal.returns
returns c =
    let s = c.args.s.now in
    handed-by-number packet_numbers (read_frame s) _ _ c.args.row.now _ c.if-row-lt17.false (frame_ok s) c.frame_into.ensures c.plain.ensures
