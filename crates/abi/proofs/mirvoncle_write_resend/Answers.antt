use Rattle.abi.proofs.CodeLaws.{sends}
use Rattle.abi.proofs.mirvoncle_write_resend.Goals as goal

pub returns : goal.returns
returns c = sends _ _ c.write_resend.ensures c.written.ensures
