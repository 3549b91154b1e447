use mathlib.Core.Path.{ap}
use Prim.Native.Nat.{ℕ}
use lib.ListN.{length}
use lib.Dec.{eqb}
use Rattle.text.specs.Utf8.{utf8}
use Rattle.text.proofs.utf8.is_utf8.Goals as goal

pub returns : goal.returns
unfolding utf8
returns c = ap (λ (n : ℕ). eqb n (length c.args.s.now)) c.valid_up_to.ensures
