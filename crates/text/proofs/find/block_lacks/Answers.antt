use Prim.Native.Nat.{◌+◌, ◌-◌, ◌<◌}
use mathlib.Core.List.{[], ◌∷◌}
use mathlib.Core.Path.{◌≡◌, ◌∙◌}
use native.Mathlib.Omega.{arith}
use lib.ListN.{get_or, drop, length-take}
use borrow.Author.Tests.{not-true, eqb-false}
use Rattle.text.proofs.Bools.{and_left, and_right}
use Rattle.text.proofs.BytesLaws.{part_at}
use Rattle.text.proofs.FindLaws.{from-no, byte_other}
use Rattle.text.proofs.find.block_lacks.Goals as goal

pub loop-x-preserved : goal.loop-x-preserved
loop-x-preserved c = λ e.
    let a = c.args in
    let k = c.loop-x.x-index in
    let h : k < a.from + 64 - a.from = omega (arith, length-take (a.from + 64 - a.from) (drop a.from a.s.now)) in
    let other : get_or a.s.now (a.from + k) 0 ≡ a.b → ⊥ = λ q. eqb-false _ _ (not-true _ (and_right _ _ e)) (part_at a.s.now a.from (a.from + 64 - a.from) k h ∙ q) in
    let z : a.from + (k + 1) ≡ a.from + k + 1 = omega arith in
    c.loop-x.invariant (and_left _ _ e) ∙ from-no (a.b ∷ []) a.s.now (a.from + k) (omega arith) (byte_other a.s.now (a.from + k) a.b [] (omega arith) other) ∙ rw z
