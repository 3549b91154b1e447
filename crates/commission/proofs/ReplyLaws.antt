-- Laws of the answers. Assumes nothing.
use Prim.Native.Nat.{ℕ, ◌+◌, ◌*◌, ◌≤◌}
use mathlib.Core.List.{List}
use native.Mathlib.Numerals.{add-one}
use native.Mathlib.Omega.{arith}
use lib.ListN.{length, length-append}
use Rattle.render.specs.Print.{Prints}
use Rattle.render.proofs.PrintLaws.{prints-none, prints_then}
use Rattle.channels.specs.Machine.{Machine}
use Rattle.commission.specs.Reply.{open_row, open_rows}

-- the open rows of the first n channels are printed, and are at most 36 bytes each
pub record RowsPrinted (m : Machine) (n : ℕ) (buf : List ℕ) (at to : ℕ) (exit : List ℕ) : Type 0 where
  pub prints : Prints buf at (open_rows m n) to exit
  pub few : length (open_rows m n) ≤ 36 * n

pub no_rows : (m : Machine) (buf : List ℕ) (at : ℕ) → RowsPrinted m 0 buf at at buf
unfolding open_rows
no_rows m buf at = record { prints = prints-none buf at; few = omega arith }

pub one-row-more : (m : Machine) (n : ℕ) {buf mid exit : List ℕ} {at to past : ℕ} → RowsPrinted m n buf at to mid → Prints mid to (open_row n (m.rows n)) past exit → length (open_row n (m.rows n)) ≤ 36
    → RowsPrinted m (n + 1) buf at past exit
unfolding open_rows
one-row-more m n p q h =
    record {
      prints = rw (add-one n) (prints_then p.prints q);
      few = rw (add-one n) (omega (arith, p.few, h, length-append (open_rows m n) (open_row n (m.rows n))));
    }
