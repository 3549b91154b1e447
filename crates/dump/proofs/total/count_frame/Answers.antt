use Rattle.std.proofs.Common.{sym, ◌∙◌}
use Rattle.dump.specs.Total.{counted_frame}
use Rattle.dump.proofs.total.count_frame.Goals as goal

-- `total::count_frame` meets its contract. Assumes nothing.
pub returns-then-is_refused : goal.returns-then-is_refused
unfolding counted_frame
returns-then-is_refused c =
    let refused = c.is_refused.ensures in
    rw (sym refused ∙ c.if-is_refused.true)

pub returns-else-is_refused : goal.returns-else-is_refused
unfolding counted_frame
returns-else-is_refused c =
    let refused = c.is_refused.ensures in
    rw (sym refused ∙ c.if-is_refused.false)
