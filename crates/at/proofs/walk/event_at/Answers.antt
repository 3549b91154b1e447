use Rattle.std.proofs.lemmas.Result.{err_from_is_err_and}
use Rattle.at.specs.Walk.{read_either}
use Rattle.at.proofs.walk.event_at.Goals as goal

-- `walk::event_at` meets its contract: binary first and text after. Assumes nothing.
pub returns-in_err-e : goal.returns-in_err-e
unfolding read_either
returns-in_err-e c = let p = err_from_is_err_and c.from_residual.result c.from_residual.ensures.1 in rw (p.1, p.2, ← c.try_parse_binary.ensures, c.in_err-e.was)

pub returns-in-Some : goal.returns-in-Some
unfolding read_either
returns-in-Some c = rw (← c.try_parse_binary.ensures, c.in_ok-e.was, c.in-Some.is)

pub returns-in-None : goal.returns-in-None
unfolding read_either
returns-in-None c = rw (← c.try_parse_binary.ensures, c.in_ok-e.was, c.in-None.is, ← c.read.ensures)
