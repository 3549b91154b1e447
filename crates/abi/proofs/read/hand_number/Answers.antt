use mathlib.Core.Path.{sym, ◌∙◌}
use mathlib.Core.List.{[], ◌∷◌}
use Rattle.abi.proofs.RowLaws.{handed_long, handed-short}
use Rattle.abi.proofs.read.hand_number.Goals as goal

-- `read::hand_number` meets its contract. Assumes nothing.
pub returns-then-row-ge17 : goal.returns-then-row-ge17
returns-then-row-ge17 c = c.alone.ensures.1 ∙ sym (handed_long c.args.row.now (c.args.n ∷ []) c.if-row-ge17.true)

pub returns-else-row-ge17 : goal.returns-else-row-ge17
returns-else-row-ge17 c = sym (handed-short c.args.row.now (c.args.n ∷ []) c.if-row-ge17.false)
