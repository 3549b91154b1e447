use native.Mathlib.Numerals.{add-one}
use Rattle.abi.proofs.packet.text_at.Goals as goal

-- `packet::text_at` meets its contract. Assumes nothing.
pub returns : goal.returns
returns c = rw add-one
