use mathlib.Core.Path.{◌≡◌, refl, sym, ◌∙◌}
use Prim.Native.Nat.{◌+◌, ◌-◌}
use native.Mathlib.Omega.{arith}
use native.Mathlib.Nat.{min-le_right}
use lib.ListN.{length}
use Rattle.lines.proofs.InputLaws.{moved, moved_none, moved_nowhere, moved_more}
use Rattle.lines.proofs.input.move_to_front.Goals as goal

-- `move_to_front` meets its contract.
pub returns-then-end-start : goal.returns-then-end-start
returns-then-end-start c = let a = c.args in
    moved_none a.input.now a.start a.end (rw c.min-end.ensures at c.if-end-start.true)

pub returns-then-start-eq0 : goal.returns-then-start-eq0
returns-then-start-eq0 c = let a = c.args in
    rw (c.min-end.ensures, c.if-start-eq0.true) (moved_nowhere a.input.now a.end (rw (c.min-end.ensures, c.if-start-eq0.true) at c.if-end-start.false))

pub loop-i-preserved : goal.loop-i-preserved
loop-i-preserved c = let a = c.args in
    let l = c.loop-i in
    let m = min-le_right a.end (length a.input.now) in
    moved_more a.input.now a.start l.i (a.start + l.i) l.input refl (omega (arith, m, c.min-end.ensures, c.loop-i-test.true)) l.invariant.0

pub returns : goal.returns
returns c = let a = c.args in
    let e : c.loop-i.i ≡ c.min-end.result - a.start = omega (arith, c.loop-i-test.false, c.loop-i.auto.i-end) in
    rw c.min-end.ensures (moved a.input.now a.start a.end (rw c.min-end.ensures at c.if-end-start.false) c.loop-i.input (rw (← c.min-end.ensures, ← e) c.loop-i.invariant.0))
