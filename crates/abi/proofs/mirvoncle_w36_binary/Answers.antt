use Rattle.at.specs.Binary.{try_rows}
use Rattle.at.specs.W36.{binary_table}
use mathlib.Core.Path.{◌∙◌}
use Rattle.abi.proofs.Numbers.{binary_ok}
use Rattle.abi.proofs.CodeLaws.{binary_lowest}
use Rattle.abi.proofs.mirvoncle_w36_binary.Goals as goal

-- `mirvoncle_w36_binary` meets its contract by that of `mirvoncle_w36_binary_why`. Assumes nothing.
pub returns : goal.returns
returns c = let s = c.args.s.now in c.plain.ensures ∙ rw c.mirvoncle_w36_binary_why.ensures (binary_lowest (try_rows binary_table 0 s) (binary_ok binary_table 0 s))
