use Rattle.std.proofs.Common.{ap, length, refl, arith}
use Rattle.writer.proofs.LineLaws.{after_all, bytes_length, ends_data, ends_bare}
use Rattle.writer.proofs.line.Line.room_after.Goals as goal

-- `line::Line::room_after` meets its contract. Assumes nothing.
pub returns-in_err-checked_sub : goal.returns-in_err-checked_sub
returns-in_err-checked_sub c =
    rw c.from_residual.ensures (λ h. c.in_err-checked_sub.ensures (omega (arith, bytes_length c.args.self)))

pub returns-in_err-head : goal.returns-in_err-head
returns-in_err-head c =
    rw c.from_residual-in_err-head.ensures (λ h. c.in_err-head.ensures (omega (arith, bytes_length c.args.self)))

pub returns-in_err-left : goal.returns-in_err-left
returns-in_err-left c =
    rw c.from_residual-in_err-left.ensures (λ h. c.in_err-left.ensures (omega (arith, bytes_length c.args.self)))

pub returns-in_err-checked_sub-in-Some : goal.returns-in_err-checked_sub-in-Some
returns-in_err-checked_sub-in-Some c =
    let e = ap length (ends_data c.args.self c.in-Some.data c.in-Some.is _ refl) in
    rw c.from_residual-in_err-checked_sub-in-Some.ensures (λ h. c.in_err-checked_sub-in-Some.ensures (omega (arith, bytes_length c.args.self)))

pub returns-in_ok-checked_sub-in-Some : goal.returns-in_ok-checked_sub-in-Some
returns-in_ok-checked_sub-in-Some c =
    let e = ap length (ends_data c.args.self c.in-Some.data c.in-Some.is _ refl) in
    after_all _ _ _ _ _ c.checked_sub-in-Some-2.ensures (omega (arith, bytes_length c.args.self, c.item_len.ensures))

pub returns-in-None : goal.returns-in-None
returns-in-None c =
    let e = ap length (ends_bare c.args.self c.in-None.is) in
    after_all _ _ _ _ _ c.checked_sub-in-None.ensures (omega (arith, bytes_length c.args.self))
