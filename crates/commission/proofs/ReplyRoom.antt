-- How long the answers are: that to a longest line, with its line end, is within what `with_room` leaves. Assumes nothing.
use Prim.Native.Nat.{ℕ, ◌/◌, ◌%◌, ◌^◌, ◌≤◌, ◌<◌}
use mathlib.Core.List.{[], ◌++◌}
use mathlib.Core.Bool.{Bool, true, false, cond}
use native.Mathlib.Omega.{arith}
use lib.ListN.{length, length-append}
use Rattle.text.specs.Bytes.{bytes}
use Rattle.text.specs.Decimal.{decimal}
use Rattle.render.proofs.WordLengths.{decimal-within}
use Rattle.channels.specs.declared.cell.Row.{Row}
use Rattle.channels.specs.declared.cell.Counts.{Counts}
use Rattle.channels.specs.Machine.{is_closed}
use Rattle.commission.specs.Reply.{dotted, remote_line, row_line, open_row, changes_line, counts_line}

dotted-room : (n : ℕ) → length (dotted n) ≤ 15
dotted-room n =
    let a = decimal (n / 16777216 % 256) in
    let b = decimal (n / 65536 % 256) in
    let c = decimal (n / 256 % 256) in
    let d = decimal (n % 256) in
    let dot = bytes "." in
    omega (
      arith,
      decimal-within 2 (n / 16777216 % 256) (omega arith),
      decimal-within 2 (n / 65536 % 256) (omega arith),
      decimal-within 2 (n / 256 % 256) (omega arith),
      decimal-within 2 (n % 256) (omega arith),
      length-append a dot,
      length-append (a ++ dot) b,
      length-append (a ++ dot ++ b) dot,
      length-append (a ++ dot ++ b ++ dot) c,
      length-append (a ++ dot ++ b ++ dot ++ c) dot,
      length-append (a ++ dot ++ b ++ dot ++ c ++ dot) d,
    )

pub remote_room : (row : Row) → row.port < 65536 → length (remote_line row) ≤ 31
remote_room row h =
    let words = bytes "open ipv4 " in
    omega (
      arith,
      dotted-room row.low,
      decimal-within 4 row.port (omega arith),
      length-append words (dotted row.low),
      length-append (words ++ dotted row.low) (bytes " "),
      length-append (words ++ dotted row.low ++ bytes " ") (decimal row.port),
    )

pub row_room : (c : ℕ) (row : Row) → c < 256 → length (cond (is_closed row) (bytes "closed") (remote_line row)) ≤ 31 → length (row_line c row) ≤ 35
unfolding row_line
row_room c row small h =
    omega (
      arith,
      h,
      decimal-within 2 c (omega arith),
      length-append (decimal c) (bytes " "),
      length-append (decimal c ++ bytes " ") (cond (is_closed row) (bytes "closed") (remote_line row)),
    )

pub open_room : (c : ℕ) (row : Row) → length (row_line c row) ≤ 35 → length (open_row c row) ≤ 36
unfolding open_row
open_room c row h = go (is_closed row)
  where
    go : (b : Bool) → length (cond b [] (row_line c row ++ bytes "\n")) ≤ 36
    go true = omega arith
    go false = omega (arith, h, length-append (row_line c row) (bytes "\n"))

pub changes_room : (n : Counts) → n.reopened < 2 ^ 32 → n.reclosed < 2 ^ 32 → length (changes_line n) ≤ 37
changes_room n h k =
    let a = bytes "reopened " ++ decimal n.reopened in
    omega (
      arith,
      decimal-within 9 n.reopened (omega arith),
      decimal-within 9 n.reclosed (omega arith),
      length-append (bytes "reopened ") (decimal n.reopened),
      length-append a (bytes " closed "),
      length-append (a ++ bytes " closed ") (decimal n.reclosed),
    )

pub counts-room : (n : Counts) → length (changes_line n) ≤ 37 → n.stray < 2 ^ 32 → n.refused < 2 ^ 32 → length (counts_line n) ≤ 73
unfolding counts_line
counts-room n front h k =
    let a = changes_line n ++ bytes " stray " ++ decimal n.stray in
    omega (
      arith,
      front,
      decimal-within 9 n.stray (omega arith),
      decimal-within 9 n.refused (omega arith),
      length-append (changes_line n) (bytes " stray "),
      length-append (changes_line n ++ bytes " stray ") (decimal n.stray),
      length-append a (bytes " refused "),
      length-append (a ++ bytes " refused ") (decimal n.refused),
    )
