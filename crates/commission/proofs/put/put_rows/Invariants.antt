use mathlib.Core.Path.{◌≡◌}
use lib.ListN.{length}
use Rattle.channels.specs.View.{view}
use Rattle.commission.proofs.ReplyLaws.{RowsPrinted}
use Rattle.commission.proofs.put.put_rows.Given as goal

-- `put::put_rows` meets its contract. Assumes nothing.
abbrev pub invariant-loop-i : goal.invariant-loop-i
invariant-loop-i l = (length l.output ≡ length l.initial.output) × RowsPrinted (view l.table) l.i l.initial.output l.at l.to l.output
