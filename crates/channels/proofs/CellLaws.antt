-- What one arrival makes of a row and the counts, by whether the row is closed. Assumes nothing.
use Prim.Native.Nat.{ℕ}
use mathlib.Core.Path.{◌≡◌, refl}
use mathlib.Core.Bool.{Bool, cond}
use borrow.Author.Tests.{eq-eqb}
use Rattle.channels.specs.declared.cell.Row.{Row}
use Rattle.channels.specs.declared.cell.Cell.{Cell}
use Rattle.channels.specs.Machine.{connects, disconnects, has_data, is_refused, other, closed, is_closed, reopened_more, reclosed_more, stray_more, refused_more}
use Rattle.channels.specs.Steps.{next_cell}

module _ (x : Cell) (c : ℕ) (b : Bool) (e : is_closed x.row ≡ b) where
  pub connected : (row : Row) → next_cell x (connects c row) ≡ record { row = row; counts = cond b x.counts (reopened_more x.counts) }
  unfolding next_cell
  connected row = rw (eq-eqb c c refl, e)

  pub disconnected : next_cell x (disconnects c) ≡ record { row = closed; counts = cond b (reclosed_more x.counts) x.counts }
  unfolding next_cell
  disconnected = rw (eq-eqb c c refl, e)

  pub had_data : next_cell x (has_data c) ≡ record { row = x.row; counts = cond b (stray_more x.counts) x.counts }
  unfolding next_cell
  had_data = rw e

pub unchanged : (x : Cell) → next_cell x other ≡ x
unfolding next_cell
unchanged x = refl

pub was_refused : (x : Cell) → next_cell x is_refused ≡ record { row = x.row; counts = refused_more x.counts }
unfolding next_cell
was_refused x = refl
