use Prim.Native.Nat.{◌≤◌, ◌<◌}
use mathlib.Core.Path.{sym, ◌∙◌}
use native.Mathlib.Omega.{arith}
use lib.ListN.{length}
use Rattle.at.specs.Steps.{kind_of}
use Rattle.abi.specs.Steps.{kinds_for}
use Rattle.abi.proofs.GivenLaws.{kinds-length, kind_in, width-most, values_length, taking_none, taking_next, taking_stopped, taking_fits, taking_whole}
use Rattle.abi.proofs.given.of_kinds.Goals as goal

pub loop-i-init : goal.loop-i-init
loop-i-init c = (omega arith, taking_none _ _)

pub offset_bounds-row-at : goal.offset_bounds-row-at
offset_bounds-row-at c = omega (arith, c.loop-i.invariant.1.near)

pub bounds-row-at : goal.bounds-row-at
bounds-row-at c = omega (arith, c.loop-i.invariant.1.near)

pub value_in-requires : goal.value_in-requires
value_in-requires c =
    (omega (arith, c.loop-i.invariant.1.near), sym c.fits.ensures ∙ c.if-fits.true)

pub offset_bounds-values-i : goal.offset_bounds-values-i
offset_bounds-values-i c = omega arith

pub bounds-values-i : goal.bounds-values-i
bounds-values-i c = omega arith

pub returns-else-fits : goal.returns-else-fits
returns-else-fits c =
    let l = c.loop-i in
    let ks = kinds_for c.args.kinds.now c.args.count in
    let n = kinds-length c.args.kinds.now c.args.count c.requires.1 in
    let more : l.i < length ks = omega (arith, n, c.loop-i-test.true) in
    let kind = c.letter_at-kind.ensures ∙ sym (kind_in c.args.kinds.now c.args.count c.requires.1 l.i c.loop-i-test.true) in
    rw (taking_stopped ks c.args.row.now l.values l.at l.i l.invariant.1 more (rw kind at (sym c.fits.ensures ∙ c.if-fits.false)))

pub overflow_add-at : goal.overflow_add-at
overflow_add-at c = omega (arith, c.loop-i.invariant.1.near, c.width-at.ensures, width-most (kind_of c.letter_at-kind.result))

pub overflow_add-i : goal.overflow_add-i
overflow_add-i c = omega arith

pub loop-i-smaller : goal.loop-i-smaller
loop-i-smaller c = omega arith

pub loop-i-preserved : goal.loop-i-preserved
loop-i-preserved c =
    let l = c.loop-i in
    let ks = kinds_for c.args.kinds.now c.args.count in
    let n = kinds-length c.args.kinds.now c.args.count c.requires.1 in
    let more : l.i < length ks = omega (arith, n, c.loop-i-test.true) in
    let kind = c.letter_at-kind.ensures ∙ sym (kind_in c.args.kinds.now c.args.count c.requires.1 l.i c.loop-i-test.true) in
    let fit = rw kind at (sym c.fits.ensures ∙ c.if-fits.true) in
    (omega arith, rw (c.value_in.ensures, c.width-at.ensures, kind) (taking_next ks c.args.row.now l.values l.at l.i l.invariant.1 more (omega arith) fit))

pub returns : goal.returns
returns c =
    let l = c.loop-i in
    let row = c.args.row.now in
    let ks = kinds_for c.args.kinds.now c.args.count in
    let n = kinds-length c.args.kinds.now c.args.count c.requires.1 in
    let all : length ks ≤ l.i = omega (arith, n, c.loop-i-test.false) in
    rw (taking_fits ks row l.values l.at l.i l.invariant.1 all, taking_whole ks row l.values l.at l.i l.invariant.1 all, values_length ks row 2, n)
