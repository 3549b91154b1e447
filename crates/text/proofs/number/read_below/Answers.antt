use mathlib.Core.Path.{◌≡◌, sym, ◌∙◌}
use Prim.Native.Nat.{◌-◌}
use native.Mathlib.Omega.{arith}
use lib.ListN.{length, drop, get_or, length-drop}
use lib.Seq.{take_all}
use Rattle.text.proofs.NumberLaws.{signed_empty, signed-plus, signed-plain}
use Rattle.text.proofs.number.read_below.Goals as goal

pub returns-in-empty : goal.returns-in-empty
returns-in-empty c = sym (signed_empty c.args.limit c.args.s.now (omega arith))

pub returns-in-43 : goal.returns-in-43
returns-in-43 c =
    let s = c.args.s.now in
    let e : get_or s 0 0 ≡ 43 = omega arith in
    c.digits.ensures ∙ rw (take_all (length s - 1) (drop 1 s) (simp length-drop (omega arith))) (sym (signed-plus c.args.limit s (λ z. omega arith) e))

pub returns-in_default : goal.returns-in_default
returns-in_default c =
    let s = c.args.s.now in
    let n : get_or s 0 0 ≡ 43 → ⊥ = λ e. omega arith in
    c.digits-in_default.ensures ∙ sym (signed-plain c.args.limit s (λ z. omega arith) n)
