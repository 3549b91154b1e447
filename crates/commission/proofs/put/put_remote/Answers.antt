use native.Mathlib.Omega.{arith}
use Rattle.render.proofs.PrintLaws.{prints_then}
use Rattle.commission.proofs.ReplyRoom.{remote_room}
use Rattle.commission.proofs.put.put_remote.Goals as goal

-- `put::put_remote` meets its contract. Assumes nothing.
pub returns : goal.returns
returns c =
    (prints_then (prints_then (prints_then c.word-a.ensures c.put_dotted-b.ensures) c.word-c.ensures) c.number.ensures, remote_room c.args.row (omega (arith, c.struct_known-1.given.1.1.1.0)))
