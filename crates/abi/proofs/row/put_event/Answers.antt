use borrow.Author.Rules.{rules}
use Prim.Native.Nat.{suc, ◌+◌, ◌≤◌, ◌<◌}
use mathlib.Core.Path.{◌≡◌, refl, ap, ◌∙◌}
use native.Mathlib.Omega.{arith}
use lib.ListN.{length, take, get_or, set, length-append, length-set}
use lib.Seq.{take_all}
use Rattle.at.specs.Event.{num}
use Rattle.at.specs.Parts.{values_of}
use Rattle.abi.specs.Row.{value_numbers, values_numbers}
use Rattle.abi.proofs.RowLaws.{put-none, placed_then, put-after, value-width, values-more, at-most-seven, values_there, values_past}
use Rattle.abi.proofs.row.put_event.Goals as goal
use Rattle.abi.proofs.row.put_event.Goals.{then-i-p, else-i-p}

pub loop-i-init : goal.loop-i-init
loop-i-init c = (refl, omega arith, unfold values_numbers in omega arith, unfold values_numbers in put-none _ _)

pub put_value-to-requires : goal.put_value-to-requires
put_value-to-requires c =
    let l = c.loop-i in
    let same = length-set c.args.row.now c.args.at c.args.p.row in
    omega (arith, c.requires, same, l.invariant.0, l.invariant.1)

pub loop-i-preserved : goal.loop-i-preserved
loop-i-preserved c =
    let l = c.loop-i in
    let p = c.args.p in
    let vs = values_of p in
    let v = get_or vs l.i (num 0) in
    let xs = values_numbers (take l.i vs) in
    let row₀ = set c.args.row.now c.args.at p.row in
    let same = length-set c.args.row.now c.args.at p.row in
    let next : l.i + 1 ≡ suc l.i = omega arith in
    let wide = value-width v in
    let all = length-append xs (value_numbers v) in
    let joined = placed_then row₀ (c.args.at + 1) xs (value_numbers v) (omega (arith, c.requires, same, l.invariant.1, l.invariant.2, c.loop-i-test.true)) in
    elim c.if-i-p.branch [
      | then-i-p w ↦
          let there = values_there p l.i (search rules) c.loop-i-test.true w.if-i-p.true in
          let more = values-more vs l.i there.0 in
          let value = rw there.1 at w.put_value-to.ensures in
          rw (w.row-is, w.to-is) (
            w.put_value-to.auto.row ∙ l.invariant.0,
            omega (arith, value.0, l.invariant.1),
            rw (next, more) (omega (arith, value.0, l.invariant.2, all)),
            rw (next, more) (value.1 ∙ rw (l.invariant.2, l.invariant.3) joined),
          )
      | else-i-p w ↦
          rw (w.row-is, w.to-is, values_past p l.i w.if-i-p.false) (l.invariant.0, omega (arith, l.invariant.1), l.invariant.2, l.invariant.3)
    ]

pub shape_of-row : goal.shape_of-row
shape_of-row c =
    c.loop-i.invariant.0 ∙ length-set c.args.row.now c.args.at c.args.p.row

pub returns : goal.returns
returns c =
    let l = c.loop-i in
    let vs = values_of c.args.p in
    let few = at-most-seven c.args.p (search rules) in
    let all = take_all l.i vs (omega arith) in
    let last = rw all at l.invariant.2 in
    let end : l.to ≤ c.args.at + 15 = omega (arith, l.invariant.1) in
    record {
      ends = omega (arith, last);
      most = end;
      leaves = rw all at l.invariant.3 ∙ put-after c.args.row.now c.args.at c.args.p.row (values_numbers vs) (omega (arith, last, end, c.requires));
    }
