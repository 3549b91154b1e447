-- Laws of a packet that is given as a row. Assumes nothing.
use Prim.Native.Nat.{ℕ, ◌≤◌, ◌<◌}
use mathlib.Core.Path.{◌≡◌}
use mathlib.Core.List.{List}
use lib.ListN.{length}
use borrow.Author.Tests.{lt-ltb, le-ltb, eq-eqb, ne_eqb}
use Rattle.at.specs.Refusal.{OrRefused, refused, no}
use Rattle.abi.specs.Given.{number, given, of_identifier, packet_in}

-- a row that is too short, one that does not begin with 0, and one that does
pub given-short : {A : Type 0} (row : List ℕ) (a : OrRefused A) → length row < 17 → given row a ≡ refused (no 254)
given-short row a h = rw (lt-ltb (length row) 17 h)

pub given-refused : {A : Type 0} (row : List ℕ) (a : OrRefused A) → 17 ≤ length row → (number row 0 ≡ 0 → ⊥) → given row a ≡ refused (no 253)
given-refused row a h z = rw (le-ltb (length row) 17 h, ne_eqb (number row 0) 0 z)

pub given_long : {A : Type 0} (row : List ℕ) (a : OrRefused A) → 17 ≤ length row → number row 0 ≡ 0 → given row a ≡ a
given_long row a h z = rw (le-ltb (length row) 17 h, eq-eqb (number row 0) 0 z)

-- a row that begins with 0 is the packet of its identifier
pub packet-by : (row : List ℕ) → 17 ≤ length row → number row 0 ≡ 0 → packet_in row ≡ of_identifier row (number row 1)
unfolding packet_in
packet-by row h z = given_long row (of_identifier row (number row 1)) h z
