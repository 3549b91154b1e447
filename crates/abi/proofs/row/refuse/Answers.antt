use mathlib.Core.Path.{◌∙◌}
use mathlib.Core.List.{[], ◌∷◌}
use Prim.Native.Nat.{◌/◌, ◌%◌}
use Rattle.abi.proofs.RowLaws.{placed-over}
use Rattle.abi.proofs.row.refuse.Goals as goal

-- `row::refuse` meets its contract. Assumes nothing.
pub returns : goal.returns
returns c =
    (c.plain.ensures, rw (c.from.ensures, c.from-2.ensures, c.from-3.ensures) at c.put.ensures ∙ placed-over c.args.row.now (c.args.why % 256 ∷ c.args.why / 256 % 256 ∷ c.args.why / 65536 ∷ []))
