use Prim.Native.Nat.{◌+◌, ◌-◌}
use mathlib.Core.Path.{◌≡◌, ◌∙◌}
use native.Mathlib.Omega.{arith}
use lib.ListN.{length}
use Rattle.text.specs.Bytes.{part}
use Rattle.at.proofs.NameLaws.{same_items}
use Rattle.at.proofs.table.stands_at.Goals as goal

pub returns : goal.returns
unfolding part
returns g c =
    let a = c.args in
    let n : a.at + length a.name.now - a.at ≡ length a.name.now = omega arith in
    c.eq.ensures ∙ rw (n, c.bytes.ensures.spells) (same_items a.name.now _)

pub slice_bounds-eq-end : goal.slice_bounds-eq-end
slice_bounds-eq-end g c = rw c.bytes.ensures.spells c.requires
