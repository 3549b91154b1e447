use mathlib.Core.Path.{◌≡◌, refl, sym, ◌∙◌}
use mathlib.Core.Bool.{Bool}
use mathlib.Core.List.{List}
use Prim.Native.Nat.{ℕ}
use native.Mathlib.Omega.{arith}
use lib.ListN.{length, take, drop}
use Rattle.text.specs.Bytes.{same, part, starts_with}
use Rattle.text.proofs.BytesLaws.{same_length, same_end, same_bad, same_more, starts_same}
use Rattle.text.proofs.bytes.starts_at.Goals as goal

-- the part holds the same bytes as the text exactly if what stands there starts with it
started : (s p t : List ℕ) (at : ℕ) (b : Bool) → p ≡ part s at (length t) → b ≡ same p t → b ≡ starts_with (drop at s) t
unfolding part
started s p t at b e h = h ∙ rw e (starts_same (drop at s) t)

pub returns-then-p-t : goal.returns-then-p-t
returns-then-p-t c = started c.args.s.now _ c.args.t.now c.args.at _ c.part-p.ensures (sym (same_length _ _ c.if-p-t.true))

pub loop-i-init : goal.loop-i-init
loop-i-init c = refl

pub bounds-p-i : goal.bounds-p-i
bounds-p-i c = omega arith

pub returns-then-p-i : goal.returns-then-p-i
returns-then-p-i c =
    let p = c.part-p.result.now in
    started c.args.s.now p c.args.t.now c.args.at _ c.part-p.ensures (sym (c.loop-i.invariant ∙ same_bad p c.args.t.now c.loop-i.i (omega arith) (omega arith) c.if-p-i.true))

pub loop-i-preserved : goal.loop-i-preserved
loop-i-preserved c = c.loop-i.invariant ∙ same_more c.part-p.result.now c.args.t.now c.loop-i.i (omega arith) (omega arith) c.if-p-i.false

pub returns : goal.returns
returns c =
    let p = c.part-p.result.now in
    started c.args.s.now p c.args.t.now c.args.at _ c.part-p.ensures (sym (c.loop-i.invariant ∙ same_end p c.args.t.now c.loop-i.i (omega arith) (omega arith)))
