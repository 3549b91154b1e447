use mathlib.Core.Path.{sym, ap, ◌∙◌}
use Rattle.at.specs.Steps.{letters_in}
use Rattle.at.proofs.TableLaws.{row_texts}
use Rattle.at.proofs.table.letters.Goals as goal

pub returns : goal.returns
returns g c =
    let q = row_texts g.R.Rows.rows _ c.args.row c.bytes.ensures c.requires in
    c.kinds_at.ensures ∙ q.3 ∙ sym (ap letters_in q.1)
