use Rattle.std.proofs.Common.{ℕ, sym}
use lib.ListN.{length-replicate}
use Rattle.replay.proofs.main.Goals as goal

-- `main` is safe: its buffers have the sizes that the promise of an answer asks for.
pub run-requires : goal.run-requires
run-requires c = (length-replicate {A = ℕ} 524288 0, length-replicate {A = ℕ} 131072 0, length-replicate {A = ℕ} 131072 0)

pub slice_bounds-run-end : goal.slice_bounds-run-end
slice_bounds-run-end c = sym (length-replicate {A = ℕ} 524288 0)

pub slice_bounds-run-end-2 : goal.slice_bounds-run-end-2
slice_bounds-run-end-2 c = sym (length-replicate {A = ℕ} 524288 0)
