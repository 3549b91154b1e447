-- Laws of a window: its list, and how long its frames are. Assumes nothing.
use Rattle.std.proofs.Common.{◌≡◌, ℕ, ◌+◌, ◌<◌, ◌≤◌, Bool, true, false, ltb, List, length, drop, refl, ap, ◌∙◌, arith, length-take}
use native.Mathlib.Nat.{min-le_left}
use Rattle.text.specs.Bytes.{part}
use Rattle.edm.specs.Frame.{length_field}
use Rattle.scan.specs.Cut.{run, cut, rows}
use Rattle.scan.specs.Scan.{refusal_no, ranges, refusal, outcome, Scans}
use Rattle.scan.specs.Listed.{listed_at}
use Rattle.scan.specs.Window.{decided_bytes}
use Rattle.scan.specs.declared.ScanError.{ScanError}
use Rattle.std.specs.Prelude.{Ok, Err}
use Rattle.scan.specs.declared.listed.Listed.{Listed}
use Rattle.scan.proofs.ScanLaws.{scanned-listed, scan_listed}
use Rattle.scan.proofs.Room.{enough}
use Rattle.scan.proofs.Rows.{row_at, row-run}
use Rattle.dump.specs.Window.{Lists}

-- what `scan` has listed
pub scan_lists : (dump list exit : List ℕ) (n : ℕ) → Scans dump list (Ok n) exit → Lists dump exit n
scan_lists dump list exit n s =
    let l = scan_listed dump (length list) n s.answers in
    record { more = drop (length (rows 0 (cut dump))) list; holds = s.leaves ∙ rw l.0; counts = l.1 }

-- and that it lists a window
pub never_refused : (dump list exit : List ℕ) (e : ScanError) → length dump ≤ 65536 → 56175 ≤ length list → Scans dump list (Err e) exit → ⊥
never_refused dump list exit e h k s =
    let l = scanned-listed dump (length list) h (omega (arith, enough dump h)) in
    let a : refusal (refusal_no e) ≡ ranges (length (cut dump)) = s.answers ∙ ap outcome l in
    let z : ◌≡◌ {A = ℕ} 0 1 = cc in
    omega arith

-- a frame has at most 4,099 bytes
run-few : (s : List ℕ) → length (run s) ≤ 4099
unfolding run
run-few s = let l = length-take (length_field s + 4) s in let m = min-le_left (length_field s + 4) (length s) in omega arith

module _ (dump list : List ℕ) (count : ℕ) (x : Lists dump list count) (i : ℕ) (r : Listed) (h : i < count) (e : r ≡ listed_at list i) where
  frame-few : r.kept ≡ true → r.len ≤ 4099
  frame-few k =
      let c = x.counts in
      let there : i < length (cut dump) = omega arith in
      let is_row = e ∙ ap (λ (l : List ℕ). listed_at l i) x.holds ∙ row_at (cut dump) x.more i there in
      let l = row-run dump i there r is_row k in
      omega (arith, run-few (drop r.start dump))

  pub decided_few : (places n : ℕ) → n ≡ decided_bytes r places → r.kept ≡ true → n ≤ 4099
  decided_few places n d k = go (ltb r.start places) refl
    where
      go : (t : Bool) → ltb r.start places ≡ t → n ≤ 4099
      go true l = let m : n ≡ r.len = d ∙ rw (k, l) in omega (arith, frame-few k)
      go false l = let m : n ≡ 0 = d ∙ rw (k, l) in omega arith

pub part-few : (s : List ℕ) (start n : ℕ) → length (part s start n) ≤ n
unfolding part
part-few s start n = let l = length-take n (drop start s) in let m = min-le_left n (length (drop start s)) in omega arith
