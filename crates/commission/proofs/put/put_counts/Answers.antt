use native.Mathlib.Omega.{arith}
use Rattle.render.proofs.PrintLaws.{prints_then}
use Rattle.commission.specs.Reply.{counts_line}
use Rattle.commission.proofs.ReplyRoom.{counts-room}
use Rattle.commission.proofs.put.put_counts.Goals as goal

-- `put::put_counts` meets its contract. Assumes nothing.
pub returns : goal.returns
unfolding counts_line
returns c =
    let known = c.struct_known-2-1.given in
    (prints_then (prints_then (prints_then (prints_then c.put_changes-a.ensures.0 c.word-b.ensures) c.number-c.ensures) c.word-d.ensures) c.number.ensures, counts-room c.args.counts c.put_changes-a.ensures.1 (omega (arith, known.1.1.0)) (omega (arith, known.1.1.1.0)))
