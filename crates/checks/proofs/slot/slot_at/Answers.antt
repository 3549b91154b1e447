use mathlib.Core.Bool.{true}
use native.Mathlib.Omega.{arith}
use Rattle.checks.specs.Slot.{slots_of}
use Rattle.checks.proofs.SlotLaws.{few, framed-count, framed-slot}
use Rattle.checks.proofs.slot.slot_at.Goals as goal

pub returns-else-j-n-clause-slot : goal.returns-else-j-n-clause-slot
returns-else-j-n-clause-slot c = rw (c.if-not-framed.false, c.shape_slot-else-j-n.ensures)
    (framed-slot c.args.shape c.args.i c.in-Some.j (omega (arith, c.in-Some.ensures)) _ c.shape_count-n.ensures.count c.if-j-n.false)

pub returns-else-j-n-clause-few : goal.returns-else-j-n-clause-few
returns-else-j-n-clause-few c = let n = c.shape_count-n.ensures in
    few 1024 (slots_of true c.args.shape) _ _ (rw c.if-not-framed.false at (returns-else-j-n-clause-slot c)) (omega (arith, framed-count c.args.shape, n.count, n.few))
