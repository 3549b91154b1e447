use Rattle.abi.proofs.CodeLaws.{sends}
use Rattle.abi.proofs.mirvoncle_write_data.Goals as goal

pub returns : goal.returns
returns c = sends _ _ c.write_data.ensures c.written.ensures
