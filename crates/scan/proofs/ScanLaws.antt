-- Laws of the answer. Assumes nothing.
use Prim.Native.Nat.{ℕ, ◌*◌, ◌≤◌, ◌<◌}
use mathlib.Core.Path.{◌≡◌, refl, ap}
use mathlib.Core.List.{List, ◌++◌}
use mathlib.Core.Bool.{Bool, true, false, cond}
use native.Mathlib.Omega.{arith}
use lib.Dec.{ltb, leb}
use lib.ListN.{length, drop}
use borrow.Author.Tests.{lt-ltb, le-ltb, le-leb, lt-leb}
use Rattle.scan.specs.Cut.{cut, rows}
use Rattle.scan.specs.Scan.{Scanned, listed, refuse, scanned, ranges, refusal, outcome, Scans}
use Rattle.scan.specs.declared.ScanError.TheVariants as refused
use Rattle.std.specs.Prelude.{Ok, Err}
use Rattle.scan.proofs.CutLaws.{rows-length}

module _ (dump : List ℕ) (room : ℕ) where
  pub scanned_long : 65536 < length dump → scanned dump room ≡ refuse 23
  unfolding scanned
  scanned_long h = rw (lt-ltb 65536 (length dump) h)

  pub scanned_full : length dump ≤ 65536 → room < length (rows 0 (cut dump)) → scanned dump room ≡ refuse 22
  unfolding scanned
  scanned_full h k = rw (le-ltb 65536 (length dump) h, lt-leb (length (rows 0 (cut dump))) room k)

  pub scanned-listed : length dump ≤ 65536 → length (rows 0 (cut dump)) ≤ room → scanned dump room ≡ listed (cut dump)
  unfolding scanned
  scanned-listed h k = rw (le-ltb 65536 (length dump) h, le-leb (length (rows 0 (cut dump))) room k)

module _ (dump list : List ℕ) where
  pub too_long_lem : 65536 < length dump → Scans dump list (Err refused.DumpTooLong) list
  too_long_lem h = let e = scanned_long dump (length list) h in record { answers = rw e; leaves = rw e }

  pub too_full : (n : ℕ) → length dump ≤ 65536 → n ≡ length (cut dump) → length list < n * 3 → Scans dump list (Err refused.RangeListFull) list
  too_full n h c k =
      let l = rows-length 0 (cut dump) in
      let e = scanned_full dump (length list) h (omega arith) in
      record { answers = rw e; leaves = rw e }

  pub all_listed : (n : ℕ) (exit : List ℕ) → length dump ≤ 65536 → n ≡ length (cut dump) → n * 3 ≤ length list
      → exit ≡ rows 0 (cut dump) ++ drop (length (rows 0 (cut dump))) list → Scans dump list (Ok n) exit
  all_listed n exit h c k x =
      let l = rows-length 0 (cut dump) in
      let e = scanned-listed dump (length list) h (omega arith) in
      record { answers = rw e (ap ranges c); leaves = rw e x }

-- what an answer says of it
pub scan_listed : (dump : List ℕ) (room n : ℕ) → ranges n ≡ outcome (scanned dump room) → (scanned dump room ≡ listed (cut dump)) × (n ≡ length (cut dump))
unfolding scanned
scan_listed dump room n e = go (ltb 65536 (length dump)) (leb (length (rows 0 (cut dump))) room) e
  where
    go : (long fits : Bool) → ranges n ≡ outcome (cond long (refuse 23) (cond fits (listed (cut dump)) (refuse 22)))
        → (cond long (refuse 23) (cond fits (listed (cut dump)) (refuse 22)) ≡ listed (cut dump)) × (n ≡ length (cut dump))
    go true fits q = absurd cc
    go false true q = let l : n ≡ length (cut dump) = cc in (refl, l)
    go false false q = absurd cc

pub scan_refused_lem : (dump : List ℕ) (room n : ℕ) → refusal n ≡ outcome (scanned dump room) → scanned dump room ≡ refuse n
scan_refused_lem dump room n e = go (scanned dump room) e
  where
    go : (x : Scanned) → refusal n ≡ outcome x → x ≡ refuse n
    go (listed ps) q = absurd cc
    go (refuse m) q = let l : m ≡ n = cc in ap refuse l
