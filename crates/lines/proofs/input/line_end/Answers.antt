use Rattle.lines.proofs.InputLaws.{place_there}
use Rattle.lines.proofs.input.line_end.Goals as goal

-- `line_end` meets its contract.
pub returns : goal.returns
returns c = rw c.unwrap_or.ensures (place_there c.args.s.now c.args.from c.first_byte.result c.first_byte.ensures)
