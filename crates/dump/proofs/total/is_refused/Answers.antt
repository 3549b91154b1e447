use Rattle.std.proofs.Common.{ap, ◌∙◌}
use Rattle.dump.specs.Total.{refuses}
use Rattle.dump.proofs.PutLaws.{err-refuses}
use Rattle.dump.proofs.total.is_refused.Goals as goal

-- `total::is_refused` meets its contract. Assumes nothing.
pub returns : goal.returns
returns c = c.is_err.ensures.value ∙ err-refuses c.read.result ∙ ap refuses c.read.ensures
