use native.Mathlib.Omega.{arith}
use mathlib.Core.Path.{◌≡◌, ◌∙◌}
use native.Mathlib.Numerals.{add-one}
use Rattle.at.specs.Steps.{kind_of}
use Rattle.abi.specs.Given.{number, width}
use Rattle.abi.proofs.GivenLaws.{two_numbers, one_number, narrow}
use Rattle.abi.proofs.given.value_in.Goals as goal

-- `given::value_in` meets its contract. Assumes nothing.
pub overflow_cast-result : goal.overflow_cast-result
overflow_cast-result c =
    let n = number c.args.row.now c.args.at in
    let one : width (kind_of c.args.kind) ≡ 2 → ⊥ = λ e. c.if-width-eq2.false (c.width.ensures ∙ e) in
    omega (arith, narrow c.args.kind n one c.requires.1)

pub returns-then-width-eq2 : goal.returns-then-width-eq2
returns-then-width-eq2 c =
    let two = rw c.width.ensures at c.if-width-eq2.true in
    rw (two_numbers (kind_of c.args.kind) c.args.row.now c.args.at two, add-one c.args.at)

pub returns-else-width-eq2 : goal.returns-else-width-eq2
returns-else-width-eq2 c =
    let one : width (kind_of c.args.kind) ≡ 2 → ⊥ = λ e. c.if-width-eq2.false (c.width.ensures ∙ e) in
    rw (one_number (kind_of c.args.kind) c.args.row.now c.args.at one)
