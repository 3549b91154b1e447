use Rattle.std.proofs.Common.{sym, ◌∙◌, [], ◌∷◌, arith}
use Rattle.text.proofs.FindLaws.{from_at}
use Rattle.lines.proofs.CutLaws.{found-cut, found_none}
use Rattle.lines.proofs.cut.cut_at.Goals as goal

-- `cut_at` meets its contract.
pub returns-in_err-i : goal.returns-in_err-i
returns-in_err-i c = rw c.from_residual.ensures (sym (found_none (c.args.mark ∷ []) c.args.s.now (sym c.first_byte.ensures ∙ c.in_err-i.was)))

pub overflow_add-i : goal.overflow_add-i
overflow_add-i c =
    let f = from_at _ _ _ _ (sym c.first_byte.ensures ∙ c.in_ok-i.was) in
    omega (arith, f.1)

pub returns : goal.returns
returns c = rw (c.part.ensures, c.part-2.ensures) (sym (found-cut (c.args.mark ∷ []) c.args.s.now c.in_ok-i.i (sym c.first_byte.ensures ∙ c.in_ok-i.was)))
