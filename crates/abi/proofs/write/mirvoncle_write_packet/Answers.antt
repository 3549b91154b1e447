use mathlib.Core.Path.{refl, ap, ◌∙◌}
use Prim.Native.Nat.{◌+◌}
use Rattle.abi.proofs.CodeLaws.{sends}
use Rattle.abi.proofs.write.mirvoncle_write_packet.Goals as goal

-- `mirvoncle_write_packet` meets its contract. Assumes nothing.
pub returns-in-Ok : goal.returns-in-Ok
returns-in-Ok c =
    rw (← c.packet_in.ensures, c.in-Ok.is) (sends _ _ c.write.ensures c.written.ensures)

pub returns-in-Err : goal.returns-in-Err
returns-in-Err c =
    rw (← c.packet_in.ensures, c.in-Err.is) (record { answers = ap (λ n. 65536 + n) (c.from-in-Err.ensures ∙ c.from.ensures); leaves = refl })
