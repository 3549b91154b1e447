use lib.ListN.{drop}
use Rattle.at.specs.Line.{read_line}
use Rattle.at.specs.Binary.{try_rows}
use Rattle.at.specs.W36.{w36, binary_table}
use Rattle.at.specs.Walk.{read_either}
use Rattle.abi.proofs.Numbers.{binary_ok}
use Rattle.abi.proofs.ReadLaws.{either_binary, either_text}
use Rattle.abi.proofs.read.either_into.Goals as goal

-- `read::either_into` meets its contract. Assumes nothing.
pub returns-then-why-eq255 : goal.returns-then-why-eq255
unfolding read_either
returns-then-why-eq255 c =
    let at = c.args.at in
    let t = drop at c.args.s.now in
    either_text (try_rows binary_table at t) (read_line w36 at t) (binary_ok binary_table at t) _ c.args.row.now _ c.binary_into-why.ensures _ _ c.if-why-eq255.true c.w36_into.ensures

pub returns-else-why-eq255 : goal.returns-else-why-eq255
unfolding read_either
returns-else-why-eq255 c =
    let at = c.args.at in
    let t = drop at c.args.s.now in
    either_binary (try_rows binary_table at t) (read_line w36 at t) (binary_ok binary_table at t) _ c.args.row.now _ c.binary_into-why.ensures c.if-why-eq255.false
