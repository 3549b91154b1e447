use mathlib.Core.Path.{◌≡◌}
use lib.ListN.{drop}
use Rattle.at.specs.Line.{rows_named}
use Rattle.at.proofs.table.row_between.Given as goal

-- `table::row_between` meets its contract: no row from `from` up to `row` has the name. Assumes nothing.
abbrev pub invariant-loop-row : goal.invariant-loop-row
invariant-loop-row g l = rows_named (drop l.from g.R.Rows.rows) l.name ≡ rows_named (drop l.row g.R.Rows.rows) l.name
