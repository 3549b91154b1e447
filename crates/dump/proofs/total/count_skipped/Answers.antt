use Rattle.dump.specs.Total.{counted_skipped}
use Rattle.std.proofs.Common.{refl}
use Rattle.dump.proofs.total.count_skipped.Goals as goal

-- `total::count_skipped` meets its contract. Assumes nothing.
pub returns : goal.returns
unfolding counted_skipped
returns c = refl
