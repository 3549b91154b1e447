-- The table by its fields: a fresh one, and one in which one row and the counts are stored anew. Assumes nothing.
use Prim.Native.Nat.{ℕ, zero, suc, ◌<◌}
use mathlib.Core.Path.{◌≡◌, refl, sym, ap, ◌∙◌}
use mathlib.Core.List.{List}
use mathlib.Core.Bool.{Bool, true, false, cond}
use native.Mathlib.Omega.{arith}
use lib.Dec.{eqb}
use lib.ListN.{length, get_or, set, replicate}
use lib.Seq.{get_or-set_same, get_or-set_other}
use borrow.Author.Tests.{eqb-true, eqb-false}
use Rattle.channels.specs.declared.cell.Row.{Row}
use Rattle.channels.specs.declared.cell.Cell.{Cell}
use Rattle.channels.specs.declared.cell.Counts.{Counts}
use Rattle.channels.specs.Machine.{Arrival, connects, disconnects, has_data, other, is_refused, Machine, closed, put, stepped}
use Rattle.channels.specs.View.{row_in, machine_of}
use Rattle.channels.specs.Steps.{channel_of, cell_at, next_cell, Whole}
use Rattle.channels.proofs.MachineLaws.{put_there}

pub zeros : (n c : ℕ) → ◌≡◌ {A = ℕ} (get_or (replicate n 0) c 0) 0
zeros zero c = refl
zeros (suc n) zero = refl
zeros (suc n) (suc c) = zeros n c

-- ---- one step of the machine changes one row, and the counts
abbrev put_cell : Machine → ℕ → Cell → Machine
put_cell m c x = record { rows = put m.rows c x.row; counts = x.counts }

-- a row that is put where it stands
put_same : (rows : ℕ → Row) (c d : ℕ) → put rows c (rows c) d ≡ rows d
put_same rows c d = go (eqb d c) refl
  where
    go : (b : Bool) → eqb d c ≡ b → cond b (rows c) (rows d) ≡ rows d
    go true e = ap rows (sym (eqb-true d c e))
    go false e = refl

step-one : (m : Machine) (a : Arrival) → put_cell m (channel_of a) (next_cell (cell_at m (channel_of a)) a) ≡ stepped m a
unfolding next_cell
step-one m (connects c row) = rw (put_there (λ d. m.rows c) c row)
step-one m (disconnects c) = rw (put_there (λ d. m.rows c) c closed)
step-one m (has_data c) = λ i. record { rows = λ d. put_same m.rows c d i; counts = (stepped m (has_data c)).counts }
step-one m other = λ i. record { rows = λ d. put_same m.rows 0 d i; counts = m.counts }
step-one m is_refused = λ i. record { rows = λ d. put_same m.rows 0 d i; counts = (stepped m is_refused).counts }

-- ---- the arrays, with one row stored at c
stored : (xs : List ℕ) (c x d : ℕ) → c < length xs → get_or (set xs c x) d 0 ≡ cond (eqb d c) x (get_or xs d 0)
stored xs c x d h = go (eqb d c) refl
  where
    go : (b : Bool) → eqb d c ≡ b → get_or (set xs c x) d 0 ≡ cond b x (get_or xs d 0)
    go true e = rw (eqb-true d c e) (get_or-set_same xs c x 0 h)
    go false e = get_or-set_other xs c d x 0 (eqb-false d c e)

by_field : (b : Bool) (r s : Row) → ◌≡◌ {A = Row} (record { kind = cond b r.kind s.kind; high = cond b r.high s.high; low = cond b r.low s.low; port = cond b r.port s.port }) (cond b r s)
by_field true r s = refl
by_field false r s = refl

module _ (kind high low port : List ℕ) (whole : Whole kind high low port) (c : ℕ) (small : c < 256) (x : Row) where
  at : (xs : List ℕ) (y d : ℕ) → length xs ≡ 256 → get_or (set xs c y) d 0 ≡ cond (eqb d c) y (get_or xs d 0)
  at xs y d l = stored xs c y d (omega (arith, small, l))

  row_stored : (d : ℕ) → row_in (set kind c x.kind) (set high c x.high) (set low c x.low) (set port c x.port) d ≡ put (row_in kind high low port) c x d
  row_stored d =
      (λ i. record {
        kind = at kind x.kind d whole.0 i;
        high = at high x.high d whole.1 i;
        low = at low x.low d whole.2 i;
        port = at port x.port d whole.3 i;
      })
      ∙ by_field (eqb d c) x (row_in kind high low port d)

-- what is stored for an arrival is one step of the machine
pub fed_step : (kind high low port : List ℕ) (n : Counts) (a : Arrival) (y : Cell) → Whole kind high low port → channel_of a < 256 → y ≡ next_cell (cell_at (machine_of kind high low port n) (channel_of a)) a
    → machine_of (set kind (channel_of a) y.row.kind) (set high (channel_of a) y.row.high) (set low (channel_of a) y.row.low) (set port (channel_of a) y.row.port) y.counts ≡ stepped (machine_of kind high low port n) a
fed_step kind high low port n a y whole small e =
    (λ i. record { rows = λ d. row_stored kind high low port whole (channel_of a) small y.row d i; counts = y.counts })
    ∙ ap (put_cell (machine_of kind high low port n) (channel_of a)) e
    ∙ step-one (machine_of kind high low port n) a
