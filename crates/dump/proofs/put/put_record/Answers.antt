use Rattle.std.proofs.Common.{ℕ, replicate}
use lib.ListN.{length-replicate}
use Rattle.render.proofs.PrintLaws.{prints-none}
use Rattle.dump.proofs.PutLaws.{record_put, record_unput}
use Rattle.dump.proofs.put.put_record.Goals as goal

-- `put::put_record` meets its contract. Assumes nothing.
pub returns-in-Ok : goal.returns-in-Ok
returns-in-Ok c =
    let a = c.args in
    let r = record_put a.place a.frame.now (replicate 4115 0) _ (length-replicate {A = ℕ} 4115 0) c.in-Ok.n (rw c.in-Ok.is at c.write_record.ensures) in
    rw (c.part.ensures, r) at c.word.ensures

pub returns-in-Err : goal.returns-in-Err
returns-in-Err c =
    let a = c.args in
    rw (record_unput a.place a.frame.now (replicate 4115 0) _ (length-replicate {A = ℕ} 4115 0) c.in-Err.field-0 (rw c.in-Err.is at c.write_record.ensures)) (prints-none _ _)
