use Rattle.at.specs.Walk.{read_either}
use Rattle.replay.proofs.answer.again36.Goals as goal

-- `again36` meets its contract.
pub returns-in-Ok-Some : goal.returns-in-Ok-Some
unfolding read_either
returns-in-Ok-Some c = rw (← c.try_parse_binary.ensures, c.in-Ok-Some.is, c.in-Ok-Some.field-0-is) c.write_event.ensures

pub returns-in-Ok-None : goal.returns-in-Ok-None
unfolding read_either
returns-in-Ok-None c = rw (← c.try_parse_binary.ensures, c.in-Ok-None.is, c.in-Ok-None.field-0-is) c.again36_text.ensures

pub returns-in-Err : goal.returns-in-Err
unfolding read_either
returns-in-Err c = rw (← c.try_parse_binary.ensures, c.in-Err.is) c.print.ensures
