use mathlib.Core.Path.{refl, ◌∙◌}
use mathlib.Core.List.{[], ◌∷◌}
use Rattle.abi.proofs.RowLaws.{placed-over}
use Rattle.abi.proofs.row.alone.Goals as goal

-- `row::alone` meets its contract. Assumes nothing.
pub returns : goal.returns
returns c = (refl, rw c.from.ensures at c.put.ensures ∙ placed-over c.args.row.now (c.args.n ∷ []))
