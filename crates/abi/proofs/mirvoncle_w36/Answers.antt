use Rattle.at.specs.Line.{read_line}
use Rattle.at.specs.W36.{w36}
use mathlib.Core.Path.{◌∙◌}
use Rattle.abi.proofs.Numbers.{line_ok}
use Rattle.abi.proofs.CodeLaws.{read_lowest}
use Rattle.abi.proofs.mirvoncle_w36.Goals as goal

-- `mirvoncle_w36` meets its contract by that of `mirvoncle_w36_why`. Assumes nothing.
pub returns : goal.returns
returns c = let s = c.args.s.now in c.plain.ensures ∙ rw c.mirvoncle_w36_why.ensures (read_lowest (read_line w36 0 s) (line_ok w36 0 s))
