use Rattle.replay.proofs.answer.write.Goals as goal

-- `write` meets its contract.
pub returns-in-Data : goal.returns-in-Data
returns-in-Data c = rw c.in-Data.is c.command.ensures

pub returns-in-Request : goal.returns-in-Request
returns-in-Request c = rw c.in-Request.is c.command-in-Request.ensures

pub returns-in-Resend : goal.returns-in-Resend
returns-in-Resend c = rw c.in-Resend.is c.command-in-Resend.ensures

pub returns-in-Again26 : goal.returns-in-Again26
returns-in-Again26 c = rw c.in-Again26.is c.again26.ensures

pub returns-in-Again36 : goal.returns-in-Again36
returns-in-Again36 c = rw c.in-Again36.is c.again36.ensures
