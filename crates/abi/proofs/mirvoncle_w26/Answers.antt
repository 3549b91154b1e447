use Rattle.at.specs.Line.{read_line}
use Rattle.at.specs.W26.{w26}
use mathlib.Core.Path.{◌∙◌}
use Rattle.abi.proofs.Numbers.{line_ok}
use Rattle.abi.proofs.CodeLaws.{read_lowest}
use Rattle.abi.proofs.mirvoncle_w26.Goals as goal

-- `mirvoncle_w26` meets its contract by that of `mirvoncle_w26_why`. Assumes nothing.
pub returns : goal.returns
returns c = let s = c.args.s.now in c.plain.ensures ∙ rw c.mirvoncle_w26_why.ensures (read_lowest (read_line w26 0 s) (line_ok w26 0 s))
