use Prim.Native.Nat.{◌+◌, ◌-◌}
use native.Mathlib.Omega.{arith}
use mathlib.Core.Path.{◌≡◌, sym}
use Rattle.edm.specs.Frame.{length_field}
use Rattle.scan.proofs.RunLaws.{kept-none, kept_whole}
use Rattle.scan.proofs.run.kept_length.Goals as goal
use Rattle.scan.proofs.run.kept_length.Goals.{then-n-lt6-via-then-n-lt6, then-n-lt6-via-else-n-lt6+then-s-n, then-n-lt6-via-else-n-lt6+else-s-n+then-s-n-ne85}

-- `run::kept_length` meets its contract: each test that fails leaves no run that stands. Assumes nothing.
pub returns-in_default : goal.returns-in_default
returns-in_default c = sym (kept-none c.args.s.now (λ h. let w = h.whole in let l = h.long in omega arith))

pub returns-in_default-2 : goal.returns-in_default-2
returns-in_default-2 c = sym (kept-none c.args.s.now (λ h. let f = h.first in omega (arith, c)))

pub returns-then-n-lt6 : goal.returns-then-n-lt6
returns-then-n-lt6 c =
    let a = c.from_be_bytes.ensures in
    let b = c.from-n.ensures in
    sym (kept-none c.args.s.now (λ h.
    let l = h.long in
    let k = h.whole in
    elim c.then-n-lt6.branch [
      | then-n-lt6-via-then-n-lt6 w ↦ omega arith
      | then-n-lt6-via-else-n-lt6+then-s-n w ↦ omega arith
      | then-n-lt6-via-else-n-lt6+else-s-n+then-s-n-ne85 w ↦ w.if-s-n-ne85.true (let m : c.from-n.result + 4 - 1 ≡ length_field c.args.s.now + 3 = omega arith in rw m h.last)
    ]))

pub returns : goal.returns
returns c =
    let s = c.args.s.now in
    let a = c.from_be_bytes.ensures in
    let b = c.from-n.ensures in
    let m : c.from-n.result ≡ length_field s = omega arith in
    let k : c.from-n.result + 4 - 1 ≡ length_field s + 3 = omega arith in
    rw m (sym (kept_whole s (record { first = omega (arith, c); long = omega arith; whole = omega arith; last = rw k at c.if-s-n-ne85.false })))
