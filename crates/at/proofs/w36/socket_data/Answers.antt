use mathlib.Core.Path.{◌≡◌, sym, ap, ◌∙◌}
use native.Mathlib.Omega.{arith}
use Prim.Native.Nat.{◌+◌, ◌-◌, ◌≤◌, ◌<◌}
use lib.ListN.{length}
use Rattle.std.specs.Prelude.{Some}
use Rattle.text.specs.Bytes.{part}
use Rattle.text.specs.Find.{first_from}
use Rattle.text.specs.Number.{some, number}
use Rattle.text.proofs.FindLaws.{from_at}
use Rattle.std.proofs.lemmas.Result.{err_from_is_err_and}
use Rattle.at.specs.Binary.{marker}
use Rattle.at.specs.W36.{UESODB}
use Rattle.at.specs.Steps.{data_of}
use Rattle.at.proofs.BinaryLaws.{marker-nowhere, data-inside, body_unmarked, body-number, body-no-number}
use Rattle.at.proofs.w36.socket_data.Goals as goal
use Rattle.at.proofs.w36.socket_data.Goals.{In-Some, In-Ok}

-- `w36::socket_data` meets its contract: the marker, the one field before it, the data after it. Assumes nothing.
-- the marker that was found, which is one of the bytes from the start on
found : (c : In-Some) → let a = c.args in first_from marker a.s.now a.start ≡ Some c.in-Some.marker
found c = sym c.first_byte.ensures ∙ c.in-Some.is

inside : (c : In-Some) → let a = c.args in (a.start ≤ c.in-Some.marker) × (c.in-Some.marker < length a.s.now)
inside c =
    let a = c.args in
    let f = from_at marker a.s.now a.start c.in-Some.marker (found c) in
    (omega (arith, f.0), f.1)

-- the number before it
told : (c : In-Ok) → let a = c.args in
    number 8 (part a.s.now a.start (c.in-Some.marker - a.start)) ≡ some c.in-Ok.n
told c = rw (← c.part-field.ensures, ← c.read.ensures, c.in-Ok.is)

pub overflow_sub-marker : goal.overflow_sub-marker
overflow_sub-marker c = (inside c).0

pub overflow_add-marker : goal.overflow_add-marker
overflow_add-marker c = omega (arith, (inside (goal.at.overflow_add-marker c).In-Some).1, c.well_formed)

pub overflow_add-result : goal.overflow_add-result
overflow_add-result c = let a = c.args in let m = c.in-Some.marker in let d = data-inside a.s.now (m + 1) (omega (arith, (inside (goal.at.overflow_add-result c).In-Some).1)) (sym (ap data_of c.in_ok-data.was) ∙ c.data_at.ensures) in omega (arith, d.1, c.well_formed)

pub returns-in_default : goal.returns-in_default
returns-in_default c = let a = c.args in rw (body_unmarked UESODB a.s.now a.start (sym (marker-nowhere a.s.now a.start (sym c.first_byte.ensures ∙ c.in_default.is))))

pub returns-in-Err : goal.returns-in-Err
returns-in-Err c = let a = c.args in rw (c.no_number.ensures, c.part-field.ensures, body-no-number a.s.now a.start c.in-Some.marker (found (goal.at.returns-in-Err c).In-Some) {why = c.in-Err.e} (rw (← c.part-field.ensures, ← c.read.ensures, c.in-Err.is)))

pub returns-in_err-data : goal.returns-in_err-data
returns-in_err-data c = let a = c.args in let p = err_from_is_err_and c.from_residual.result c.from_residual.ensures.1 in rw (p.1, p.2, body-number a.s.now a.start c.in-Some.marker (found (goal.at.returns-in_err-data c).In-Some) (told (goal.at.returns-in_err-data c).In-Ok), ← c.data_at.ensures, c.in_err-data.was)

pub returns : goal.returns
returns c = let a = c.args in rw (body-number a.s.now a.start c.in-Some.marker (found (goal.at.returns c).In-Some) (told (goal.at.returns c).In-Ok), ← c.data_at.ensures, c.in_ok-data.was)
