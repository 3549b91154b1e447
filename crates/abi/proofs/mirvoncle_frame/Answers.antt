use Rattle.edm.specs.Frame.{read_frame}
use mathlib.Core.Path.{◌∙◌}
use Rattle.abi.proofs.Numbers.{frame_ok}
use Rattle.abi.proofs.CodeLaws.{read_lowest}
use Rattle.abi.proofs.mirvoncle_frame.Goals as goal

-- `mirvoncle_frame` meets its contract by that of `mirvoncle_frame_why`. Assumes nothing.
pub returns : goal.returns
returns c = let s = c.args.s.now in c.plain.ensures ∙ rw c.mirvoncle_frame_why.ensures (read_lowest (read_frame s) (frame_ok s))
