use Rattle.at.specs.Binary.{try_rows}
use Rattle.at.specs.W36.{binary_table}
use Rattle.abi.proofs.Numbers.{binary_ok}
use Rattle.abi.proofs.RowLaws.{short}
use Rattle.abi.proofs.ReadLaws.{tried-by-number}
use Rattle.abi.proofs.read.mirvoncle_read_w36_binary.Goals as goal

-- `mirvoncle_read_w36_binary` meets its contract. Assumes nothing.
pub returns-then-row-lt17 : goal.returns-then-row-lt17
returns-then-row-lt17 c = short _ _ c.if-row-lt17.true

pub returns : goal.returns
returns c =
    let s = c.args.s.now in
    tried-by-number (try_rows binary_table 0 s) _ _ c.args.row.now _ c.if-row-lt17.false (binary_ok binary_table 0 s) c.binary_into.ensures c.plain.ensures
