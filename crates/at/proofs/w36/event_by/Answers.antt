use mathlib.Core.Path.{◌≡◌, ap, ◌∙◌}
use Rattle.std.proofs.lemmas.Result.{err_from_is_err_and}
use Rattle.text.specs.FieldSteps.{left}
use Rattle.at.specs.Event.{up_to}
use Rattle.at.specs.Parts.{row_no}
use Rattle.at.specs.Steps.{outcome_by, read_found}
use Rattle.at.specs.W36.{table}
use Rattle.at.proofs.TableLaws.{few_letters, outcome_read}
use Rattle.at.proofs.TableTests.{legible-w36, roomy-w36}
use Rattle.at.proofs.w36.event_by.Goals as goal
use Rattle.at.proofs.w36.event_by.Goals.{After-take_fields}

-- `w36::event_by` meets its contract: the fields taken by the letters of the row are those that the definition reads. Assumes nothing.
read : (c : After-take_fields) → let a = c.args in outcome_by table a.row c.take_fields.new.fields c.take_fields.result ≡ read_found (row_no table a.row) (left a.s.now a.w)
read c = outcome_read table c.args.row _ _ c.take_fields.new.fields c.take_fields.result c.requires legible-w36 c.letters.ensures c.take_fields.ensures

pub take_fields-requires : goal.take_fields-requires
take_fields-requires c = rw c.letters.ensures (few_letters table c.args.row roomy-w36.0 c.requires)

pub returns : goal.returns
returns c = ap (up_to c.args.past) (c.event_of.ensures c.requires ∙ rw c.in_ok-take_fields.was at (read (goal.at.returns c).After-take_fields))

pub returns-in_err-take_fields : goal.returns-in_err-take_fields
returns-in_err-take_fields c =
    let p = err_from_is_err_and c.from_residual.result c.from_residual.ensures.1 in
    rw (p.1, p.2) (ap (up_to c.args.past) (rw c.in_err-take_fields.was at (read (goal.at.returns-in_err-take_fields c).After-take_fields)))
