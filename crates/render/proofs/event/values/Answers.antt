use Prim.Native.Nat.{◌≤◌, ◌<◌}
use lib.ListN.{length}
use Rattle.at.specs.Parts.{values_of}
use Rattle.render.specs.Steps.{kinds_in}
use Rattle.render.proofs.PrintLaws.{prints-none, prints_then}
use Rattle.render.proofs.ValueLaws.{values-done, values-next}
use Rattle.render.proofs.event.values.Goals as goal

-- `event::values` meets its contract. Assumes nothing.
pub loop-i-preserved : goal.loop-i-preserved
loop-i-preserved c =
    let l = c.loop-i in
    let start = c.args in
    let more : l.i < length (values_of start.p) = rw c.value_count-i-end.ensures at c.loop-i-test.true in
    let value = rw (c.letter_at.ensures, c.value_at.ensures) at c.spaced-to.ensures in
    let next = values-next (kinds_in start.kinds.now) start.src.now (values_of start.p) l.i more in
    λ r e h. l.invariant r e (rw next (prints_then value h))

pub returns : goal.returns
returns c =
    let l = c.loop-i in
    let all : length (values_of c.args.p) ≤ l.i = rw c.value_count-i-end.ensures at c.loop-i-test.false in
    let done = values-done (kinds_in c.args.kinds.now) c.args.src.now (values_of c.args.p) l.i all in
    l.invariant l.to l.buf (rw done (prints-none l.buf l.to))
