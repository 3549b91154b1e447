use mathlib.Core.Path.{◌≡◌, ◌∙◌}
use Rattle.at.specs.Refusal.{good}
use Rattle.at.specs.Event.{event}
use Rattle.at.specs.Parts.{values_of}
use Rattle.at.proofs.TableLaws.{row_texts}
use Rattle.render.proofs.KindLaws.{row_line}
use Rattle.render.proofs.event.fields.Goals as goal

-- `event::fields` meets its contract: the letters that are found for the row are those of its kinds. Assumes nothing.
pub returns : goal.returns
returns c = λ rows e tabled apart.
    let start = c.args in
    let vs = values_of start.p in
    let row = row_texts rows _ _ tabled apart.listed in
    let whole : good (event row.0 vs) ≡ good e = rw row.1 at apart.whole in
    let same : event row.0 vs ≡ e = cc in
    let letters = c.kinds_at.ensures ∙ row.3 in
    rw (← same) (rw (letters, row_line row.0 start.src.now vs) at c.values.ensures)
