use mathlib.Core.Path.{refl, sym, ap, ◌∙◌}
use mathlib.Core.List.{◌∷◌}
use native.Mathlib.Omega.{arith}
use lib.ListN.{length-set}
use Rattle.at.specs.Refusal.{refusal_of}
use Rattle.at.specs.Response.{read_response, response_of, shown}
use Rattle.at.proofs.WhyLaws.{response-plain, nothing-seven}
use Rattle.abi.specs.Row.{response_numbers}
use Rattle.abi.proofs.Numbers.{response_ok}
use Rattle.abi.proofs.RowLaws.{short, long, put-after, placed-over, response-width}
use Rattle.abi.proofs.ReadLaws.{answer-refused}
use Rattle.abi.proofs.read.mirvoncle_read_response.Goals as goal

-- `mirvoncle_read_response` meets its contract. Assumes nothing.
pub returns-then-row-lt17 : goal.returns-then-row-lt17
returns-then-row-lt17 c = short _ _ c.if-row-lt17.true

pub put_response-requires : goal.put_response-requires
put_response-requires c = simp length-set (omega (arith, c.if-row-lt17.false))

pub shape_of-row-in-Ok : goal.shape_of-row-in-Ok
shape_of-row-in-Ok c =
    c.put_response.auto.row ∙ length-set c.args.row.now 0 0

pub returns-in-Ok : goal.returns-in-Ok
returns-in-Ok c =
    let d = c.args.row.now in
    let r = response_of c.in-Ok.a in
    let h = c.if-row-lt17.false in
    rw (← c.read.ensures, c.in-Ok.is)
    (long d (0 ∷ response_numbers r) _ 0 h refl (c.put_response.ensures ∙ put-after d 0 0 (response_numbers r) (omega (arith, h, response-width r)) ∙ placed-over d (0 ∷ response_numbers r)))

pub returns-in-Err : goal.returns-in-Err
returns-in-Err c =
    let s = c.args.s.now in
    answer-refused response_numbers (read_response 0 s) (refusal_of c.in-Err.e) _ _ c.args.row.now _ (sym c.read.ensures ∙ ap shown c.in-Err.is) (response_ok 0 s) (nothing-seven (read_response 0 s) (response-plain 0 s)) c.of_at.ensures c.if-row-lt17.false c.refuse.ensures
