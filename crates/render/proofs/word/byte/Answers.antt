use Rattle.render.proofs.PrintLaws.{prints-byte, prints_past}
use Rattle.render.proofs.word.byte.Goals as goal

-- `word::byte` meets its contract. Assumes nothing.
pub returns-then-at-buf : goal.returns-then-at-buf
returns-then-at-buf c = prints-byte _ _ _ c.if-at-buf.true

pub returns-else-at-buf : goal.returns-else-at-buf
returns-else-at-buf c = prints_past _ _ _ c.if-at-buf.false
