use Rattle.abi.proofs.CodeLaws.{sends}
use Rattle.abi.proofs.mirvoncle_write_request.Goals as goal

pub returns : goal.returns
returns c = sends _ _ c.write_request.ensures c.written.ensures
