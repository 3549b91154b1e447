-- Laws of the machine: a row that is put, and that no count ever falls or wraps. Assumes nothing.
use Prim.Native.Nat.{ℕ, ◌+◌, ◌≤◌}
use mathlib.Core.Path.{◌≡◌, refl}
use mathlib.Core.List.{List, [], ◌∷◌}
use mathlib.Core.Bool.{Bool, true, false, cond}
use native.Mathlib.Omega.{arith}
use lib.Dec.{ltb}
use borrow.Author.Tests.{eq-eqb, ne_eqb, ltb-true}
use Rattle.edm.specs.Frame.{read_frame}
use Rattle.channels.specs.declared.cell.Row.{Row}
use Rattle.channels.specs.declared.cell.Counts.{Counts}
use Rattle.channels.specs.Machine.{Arrival, connects, disconnects, has_data, other, is_refused, Machine, brings, up, put, is_closed, reopened_more, reclosed_more, stray_more, stepped, step, run}

-- what is put at a channel is there, and no other row changes
pub put_there : (rows : ℕ → Row) (c : ℕ) (row : Row) → put rows c row c ≡ row
put_there rows c row = rw (eq-eqb c c refl)

pub put_elsewhere : (rows : ℕ → Row) (c d : ℕ) (row : Row) → (d ≡ c → ⊥) → put rows c row d ≡ rows d
put_elsewhere rows c d row h = rw (ne_eqb d c h)

-- a count, earlier and later
pub record Grows (n m : ℕ) : Type 0 where
  pub never_falls : n ≤ m
  pub never_wraps : n ≤ 4294967295 → m ≤ 4294967295

pub record AllGrow (n m : Counts) : Type 0 where
  pub reopened : Grows n.reopened m.reopened
  pub reclosed : Grows n.reclosed m.reclosed
  pub stray : Grows n.stray m.stray
  pub refused : Grows n.refused m.refused

stays : (n : ℕ) → Grows n n
stays n = record { never_falls = omega arith; never_wraps = λ h. h }

counts_up : (n : ℕ) → Grows n (up n)
counts_up n = go (ltb n 4294967295) refl
  where
    go : (b : Bool) → ltb n 4294967295 ≡ b → Grows n (cond b (n + 1) n)
    go true e = let h = ltb-true n 4294967295 e in record { never_falls = omega arith; never_wraps = λ k. omega (arith, h) }
    go false e = stays n

later : {n m k : ℕ} → Grows n m → Grows m k → Grows n k
later p q = record { never_falls = omega (arith, p.never_falls, q.never_falls); never_wraps = λ h. q.never_wraps (p.never_wraps h) }

all_stay : (n : Counts) → AllGrow n n
all_stay n = record { reopened = stays n.reopened; reclosed = stays n.reclosed; stray = stays n.stray; refused = stays n.refused }

either : (b : Bool) (n x y : Counts) → AllGrow n x → AllGrow n y → AllGrow n (cond b x y)
either true n x y p q = p
either false n x y p q = q

stepped_grows : (m : Machine) (a : Arrival) → AllGrow m.counts (stepped m a).counts
stepped_grows m (connects c row) = either (is_closed (m.rows c)) m.counts m.counts (reopened_more m.counts) (all_stay m.counts) (record { reopened = counts_up m.counts.reopened; reclosed = stays m.counts.reclosed; stray = stays m.counts.stray; refused = stays m.counts.refused })
stepped_grows m (disconnects c) = either (is_closed (m.rows c)) m.counts (reclosed_more m.counts) m.counts (record { reopened = stays m.counts.reopened; reclosed = counts_up m.counts.reclosed; stray = stays m.counts.stray; refused = stays m.counts.refused }) (all_stay m.counts)
stepped_grows m (has_data c) = either (is_closed (m.rows c)) m.counts (stray_more m.counts) m.counts (record { reopened = stays m.counts.reopened; reclosed = stays m.counts.reclosed; stray = counts_up m.counts.stray; refused = stays m.counts.refused }) (all_stay m.counts)
stepped_grows m other = all_stay m.counts
stepped_grows m is_refused = record { reopened = stays m.counts.reopened; reclosed = stays m.counts.reclosed; stray = stays m.counts.stray; refused = counts_up m.counts.refused }

pub run_grows : (m : Machine) (frames : List (List ℕ)) → AllGrow m.counts (run m frames).counts
unfolding run step
run_grows m [] = all_stay m.counts
run_grows m (frame ∷ frames) =
    let first = stepped_grows m (brings frame (read_frame frame)) in
    let rest = run_grows (step m frame) frames in
    record { reopened = later first.reopened rest.reopened; reclosed = later first.reclosed rest.reclosed; stray = later first.stray rest.stray; refused = later first.refused rest.refused }
