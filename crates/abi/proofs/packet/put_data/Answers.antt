use mathlib.Core.Path.{◌∙◌}
use mathlib.Core.List.{[], ◌∷◌}
use Rattle.abi.specs.Row.{values_numbers}
use Rattle.abi.proofs.RowLaws.{placed-over}
use Rattle.abi.proofs.packet.put_data.Goals as goal

-- `packet::put_data` meets its contract. Assumes nothing.
pub returns : goal.returns
unfolding values_numbers
returns c = rw c.from.ensures at c.put.ensures ∙ placed-over c.args.row.now (0 ∷ c.args.identifier ∷ c.args.channel.0 ∷ c.args.t.start ∷ c.args.t.len ∷ [])
