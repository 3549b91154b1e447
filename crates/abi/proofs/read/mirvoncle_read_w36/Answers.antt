use Rattle.at.specs.Line.{read_line}
use Rattle.at.specs.W36.{rows36, w36}
use Rattle.abi.specs.Row.{read_numbers}
use Rattle.abi.proofs.Numbers.{line_ok}
use Rattle.abi.proofs.RowLaws.{short}
use Rattle.abi.proofs.ReadLaws.{handed-by-number}
use Rattle.abi.proofs.read.mirvoncle_read_w36.Goals as goal

-- `mirvoncle_read_w36` meets its contract. Assumes nothing.
pub returns-then-row-lt17 : goal.returns-then-row-lt17
returns-then-row-lt17 c = short _ _ c.if-row-lt17.true

pub returns : goal.returns
returns c =
    let s = c.args.s.now in
    handed-by-number (read_numbers rows36) (read_line w36 0 s) _ _ c.args.row.now _ c.if-row-lt17.false (line_ok w36 0 s) c.w36_into.ensures c.plain.ensures
