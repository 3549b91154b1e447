use Rattle.replay.proofs.answer.again36_text.Goals as goal

-- `again36_text` meets its contract.
pub returns-in-Ok : goal.returns-in-Ok
returns-in-Ok c = rw (← c.read.ensures, c.in-Ok.is) c.write_event.ensures

pub returns-in-Err : goal.returns-in-Err
returns-in-Err c = rw (← c.read.ensures, c.in-Err.is) c.print.ensures
