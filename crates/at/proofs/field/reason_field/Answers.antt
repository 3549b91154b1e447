use Prim.Native.Nat.{ℕ, zero, suc, ◌≤◌}
use mathlib.Core.Path.{◌≡◌, refl}
use native.Mathlib.Omega.{arith}
use borrow.Author.Tests.{le-leb, lt-leb}
use Rattle.std.proofs.lemmas.Result.{err_from_is_err_and}
use Rattle.at.specs.Event.{read_field}
use Rattle.at.specs.Steps.{reason_of}
use Rattle.at.specs.W26.{reason_no}
use Rattle.at.proofs.field.reason_field.Goals as goal

-- `field::reason_field` meets its contract: the number is in the list. Assumes nothing.
-- the number of a reason of the list is the number that was read
reason-back : (n : ℕ) → n ≤ 5 → reason_no (reason_of n) ≡ n
reason-back zero h = refl
reason-back (suc zero) h = refl
reason-back (suc (suc zero)) h = refl
reason-back (suc (suc (suc zero))) h = refl
reason-back (suc (suc (suc (suc zero)))) h = refl
reason-back (suc (suc (suc (suc (suc zero))))) h = refl
reason-back (suc (suc (suc (suc (suc (suc n)))))) h = absurd (omega arith)

pub returns-then-n-le5 : goal.returns-then-n-le5
unfolding read_field
returns-then-n-le5 c = λ i p.
    let h = c.if-n-le5.true in
    rw (c.number.ensures, c.wide.ensures, ← c.read.ensures, c.in_ok-n.was, le-leb _ 5 h, reason-back _ h)

pub returns-else-n-le5 : goal.returns-else-n-le5
unfolding read_field
returns-else-n-le5 c = λ i p. rw (← c.read.ensures, c.in_ok-n.was, lt-leb _ 5 c.if-n-le5.false)

pub returns-in_err-n : goal.returns-in_err-n
unfolding read_field
returns-in_err-n c = λ i p. let p = err_from_is_err_and c.from_residual.result c.from_residual.ensures.1 in rw (p.1, p.2, ← c.read.ensures, c.in_err-n.was)
