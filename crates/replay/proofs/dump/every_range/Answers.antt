use Rattle.std.proofs.Common.{ℕ, replicate}
use lib.ListN.{length-replicate}
use Rattle.replay.proofs.DumpLaws.{dump_listed, dump_refused}
use Rattle.replay.proofs.dump.every_range.Goals as goal

-- `every_range` meets its contract.
pub returns-in-Ok : goal.returns-in-Ok
returns-in-Ok c =
    let l = dump_listed c.args.src.now (replicate 56175 0) _ (length-replicate {A = ℕ} 56175 0) c.in-Ok.count (rw c.in-Ok.is at c.scan.ensures) in
    rw l.0 (c.ranges-in-Ok.ensures _ _ l.2 l.1)

pub returns-in-Err : goal.returns-in-Err
returns-in-Err c =
    rw (dump_refused c.args.src.now (replicate 56175 0) _ (length-replicate {A = ℕ} 56175 0) c.in-Err.e (rw c.in-Err.is at c.scan.ensures)) c.print.ensures
