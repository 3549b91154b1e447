use Prim.Native.Nat.{◌+◌, ◌-◌}
use mathlib.Core.Path.{◌≡◌, sym, ◌∙◌}
use mathlib.Core.Bool.{false≢true}
use native.Mathlib.Omega.{arith}
use lib.ListN.{length}
use borrow.Author.Tests.{eq-eqb}
use Rattle.at.specs.Table.{spelled}
use Rattle.at.proofs.NameLaws.{other}
use Rattle.at.proofs.table.ends_alike.Goals as goal

pub returns : goal.returns
returns g c = λ e.
    let a = c.args in
    let n = length a.name.now in
    let k : a.at + n - 1 ≡ a.at + (n - 1) = omega (arith, c.if-n-eq0.false) in
    other a.name.now (spelled g.R.Rows.rows) a.at (n - 1) (omega (arith, c.if-n-eq0.false)) (λ d. absurd (false≢true (sym (rw (c.bytes.ensures.spells, k) at e) ∙ eq-eqb _ _ d)))
