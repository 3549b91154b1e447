use Rattle.lines.proofs.InputLaws.{cr_cut}
use Rattle.lines.proofs.input.without_cr.Goals as goal

-- `without_cr` meets its contract.
pub returns : goal.returns
returns c = rw c.unwrap_or.ensures (cr_cut c.args.line c.strip_suffix.result c.strip_suffix.ensures.cases)
