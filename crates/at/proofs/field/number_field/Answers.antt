use mathlib.Core.Path.{sym, ap, ◌∙◌}
use Rattle.text.specs.Number.{shown}
use Rattle.text.proofs.NumberLaws.{number_fits}
use Rattle.std.proofs.lemmas.Result.{err_from_is_err_and}
use Rattle.at.specs.Event.{read_field}
use Rattle.at.proofs.TakeLaws.{kept}
use Rattle.at.proofs.field.number_field.Goals as goal

-- `field::number_field` meets its contract. Assumes nothing.
pub returns : goal.returns
unfolding read_field
returns g c = λ i p.
    let read = c.read.ensures in
    rw (c.number.ensures, c.wide.ensures, ← read, c.in_ok-read.was, kept g.T.Width.bits _ (number_fits g.T.Width.bits _ _ (sym read ∙ ap (shown g.T.Width.value) c.in_ok-read.was)))

pub returns-in_err-read : goal.returns-in_err-read
unfolding read_field
returns-in_err-read g c = λ i p. let p = err_from_is_err_and c.from_residual.result c.from_residual.ensures.1 in rw (p.1, p.2, ← c.read.ensures, c.in_err-read.was)
