use Rattle.render.proofs.FieldLaws.{prints-first}
use Rattle.render.proofs.field.named_text.Goals as goal

-- `field::named_text` meets its contract. Assumes nothing.
pub returns : goal.returns
returns c = prints-first _ _ _ c.word-at.ensures c.text_after.ensures
