use Prim.Native.Nat.{ℕ, ◌≤◌}
use mathlib.Core.Path.{◌≡◌, ◌∙◌}
use mathlib.Core.List.{List}
use native.Mathlib.Omega.{arith}
use lib.ListN.{length, drop, drop_of_length-le}
use Rattle.std.specs.Prelude.{Option, Some, None}
use Rattle.at.specs.Event.{Row}
use Rattle.at.specs.Line.{rows_named}
use Rattle.at.specs.Steps.{Finds, FindsBetween}
use Rattle.at.proofs.TableLaws.{sized}
use Rattle.at.proofs.table.row_named.Goals as goal

-- no row of the first half has the name
later : (rows : List Row) (name : List ℕ) (half all : ℕ) (o : Option ℕ) → rows_named rows name ≡ rows_named (drop half rows) name → length rows ≤ all
    → FindsBetween rows name half all o → Finds rows name o
unfolding rows_named
later rows name half all (Some i) e l f = (f.0, f.1, e ∙ f.2)
later rows name half all None e l f = e ∙ f ∙ rw (drop_of_length-le rows l)

pub row_between-requires : goal.row_between-requires
row_between-requires g c = (omega arith, omega (arith, sized g.R.Rows.rows _ c.bytes.ensures))

pub row_between-requires-in-None : goal.row_between-requires-in-None
row_between-requires-in-None g c = (omega arith, omega (arith, sized g.R.Rows.rows _ c.bytes.ensures))

pub returns-in-None : goal.returns-in-None
returns-in-None g c =
    later g.R.Rows.rows c.args.name.now _ _ c.row_between-in-None.result (rw c.in-None.is at c.row_between.ensures) (omega (arith, sized g.R.Rows.rows _ c.bytes.ensures)) c.row_between-in-None.ensures
