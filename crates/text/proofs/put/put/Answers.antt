use mathlib.Core.Path.{◌≡◌, sym, ◌∙◌}
use mathlib.Core.List.{append_assoc}
use Prim.Native.Nat.{◌+◌, ◌-◌}
use native.Mathlib.Omega.{arith}
use lib.ListN.{length}
use lib.Seq.{drop-drop}
use Rattle.text.specs.Put.{placed, wrote, after}
use Rattle.text.proofs.put.put.Goals as goal

pub returns-then-not-has_part : goal.returns-then-not-has_part
unfolding wrote after
returns-then-not-has_part c = let e = sym c.has_part.ensures ∙ c.if-not-has_part.true in (rw e, rw e)

pub returns : goal.returns
unfolding placed wrote after
returns c =
    let e = sym c.has_part.ensures ∙ c.if-not-has_part.false in
    let n : c.args.at + length c.args.src.now - c.args.at ≡ length c.args.src.now = omega arith in
    (rw e, rw (e, n, c.copy_from_slice.ensures.after, append_assoc, drop-drop))
