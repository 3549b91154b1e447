use mathlib.Core.Path.{refl}
use native.Mathlib.Omega.{arith}
use Rattle.std.proofs.lemmas.Result.{err_from_is_err_and}
use Rattle.lines.proofs.InputLaws.{still_stays, read_more, read_all}
use Rattle.lines.proofs.input.read_full.Goals as goal

pub loop-count-init : goal.loop-count-init
loop-count-init g c = (refl, omega arith, refl)

pub returns-in_err-n : goal.returns-in_err-n
returns-in_err-n g c = let l = c.loop-count in
    let p = err_from_is_err_and c.from_residual.result c.from_residual.ensures.1 in
    rw (p.1, p.2) (read_more c.args.input.now l.input c.args.kept l.count l.invariant.0 l.invariant.1 l.invariant.2 _ _ c.loop-count-test.true c.in_err-n.ensures).1

pub returns-then-n-count : goal.returns-then-n-count
returns-then-n-count g c = let a = c.args in
    let l = c.loop-count in
    (read_more a.input.now l.input a.kept l.count l.invariant.0 l.invariant.1 l.invariant.2 c.in_ok-n.n _ c.loop-count-test.true c.in_ok-n.ensures).1

pub loop-count-smaller : goal.loop-count-smaller
loop-count-smaller g c = omega (arith, c.if-n-count.false, c.loop-count-test.true, c.loop-count.invariant.2)

pub loop-count-preserved : goal.loop-count-preserved
loop-count-preserved g c = let a = c.args in
    let l = c.loop-count in
    let k = l.invariant.1 in
    (still_stays a.input.now l.input a.kept l.count l.invariant.0 l.invariant.1 l.invariant.2 c.in_ok-n.n _ c.in_ok-n.ensures, omega (arith, c.if-n-count.false, k), omega (arith, l.invariant.2, c.read_after.auto.input))

pub returns : goal.returns
returns g c = let a = c.args in
    let l = c.loop-count in
    read_all a.input.now l.input a.kept l.count l.invariant.0 l.invariant.1 l.invariant.2 c.loop-count-test.false
