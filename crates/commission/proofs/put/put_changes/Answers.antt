use native.Mathlib.Omega.{arith}
use Rattle.render.proofs.PrintLaws.{prints_then}
use Rattle.commission.proofs.ReplyRoom.{changes_room}
use Rattle.commission.proofs.put.put_changes.Goals as goal

-- `put::put_changes` meets its contract. Assumes nothing.
pub returns : goal.returns
returns c =
    let known = c.struct_known-2-1.given in
    (prints_then (prints_then (prints_then c.word-a.ensures c.number-b.ensures) c.word-c.ensures) c.number.ensures, changes_room c.args.counts (omega (arith, known.0)) (omega (arith, known.1.0)))
