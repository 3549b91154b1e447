use Rattle.at.specs.Refusal.{refusal_of}
use Rattle.abi.proofs.CodeLaws.{refusal_lowest, at_known}
use Rattle.abi.proofs.mirvoncle_response.Goals as goal

-- `mirvoncle_response` meets its contract by that of `at::response::read`. Assumes nothing.
pub returns-in-Ok : goal.returns-in-Ok
returns-in-Ok c = rw (← c.read.ensures, c.in-Ok.is)

pub returns-in-Err : goal.returns-in-Err
returns-in-Err c = let e = c.in-Err.e in rw (← c.read.ensures, c.in-Err.is, c.plain.ensures, c.of_at.ensures) (refusal_lowest (refusal_of e) (at_known e))
