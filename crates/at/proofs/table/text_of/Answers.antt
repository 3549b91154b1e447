use Prim.Native.Nat.{◌+◌, ◌*◌}
use mathlib.Core.Path.{◌∙◌}
use native.Mathlib.Omega.{arith}
use Rattle.at.proofs.TableLaws.{none_past}
use Rattle.at.proofs.table.text_of.Goals as goal

-- `table::text_of` meets its contract: where there is no such row, no length is found. Assumes nothing.
pub returns-then-table-row : goal.returns-then-table-row
returns-then-table-row c =
    let a = c.args in
    c.part.ensures ∙ none_past a.table.now (a.row * 20 + a.len) (a.row * 20 + a.start) (omega (arith, c.if-table-row.true))

pub returns-else-at-len : goal.returns-else-at-len
returns-else-at-len c =
    let a = c.args in
    c.part-else-at-len.ensures ∙ none_past a.table.now (a.row * 20 + a.len) (a.row * 20 + a.start) c.if-at-len.false
