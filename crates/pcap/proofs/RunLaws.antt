-- Laws of a run of records: each moves on, so a run ends, and it is one record and then the run from there on. Assumes nothing.
use Prim.Native.Nat.{ℕ, zero, suc, ◌+◌, ◌*◌, ◌-◌, ◌≤◌, ◌<◌}
use mathlib.Core.Path.{◌≡◌, refl, ap, ◌∙◌}
use mathlib.Core.List.{List}
use native.Mathlib.Omega.{arith}
use lib.ListN.{length, drop, length-drop}
use Rattle.text.specs.Bytes.{part}
use Rattle.pcap.specs.Read.{Outcome, found, end, refusal, read_record}
use Rattle.pcap.specs.File.{entry, Run, record_then, then_end, then_refused, go_on, run_from, run_at}
use Rattle.pcap.specs.declared.ByteOrder.{ByteOrder}
use Rattle.pcap.proofs.ReadLaws.{found-places, record_end}

end_stays : (o : ByteOrder) (s : List ℕ) (at : ℕ) → length s ≤ at → read_record o s at ≡ end
end_stays o s at h = let l = length-drop at s in record_end o at (drop at s) (omega arith)

-- what follows a record only matters at the place that it leads to
go_on_same : (o : ByteOrder) (s : List ℕ) (at : ℕ) (f g : ℕ → Run) → ((past : ℕ) → at < past → f past ≡ g past) → go_on s at (read_record o s at) f ≡ go_on s at (read_record o s at) g
go_on_same o s at f g h = go (read_record o s at) refl
  where
    go : (x : Outcome) → read_record o s at ≡ x → go_on s at x f ≡ go_on s at x g
    go (found a b start len past) x =
        let p = found-places o s at a b start len past x in
        ap (record_then (entry a b (part s start len)) start) (h past (omega (arith, p.0, p.1)))
    go end x = refl
    go (refusal n) x = refl

-- as many steps as there are bytes left are enough, and more change nothing
enough : (n m : ℕ) (o : ByteOrder) (s : List ℕ) (at : ℕ) → length s - at ≤ n → length s - at ≤ m → run_from n o s at ≡ run_from m o s at
unfolding run_from
enough zero zero o s at h k = refl
enough zero (suc m) o s at h k = rw (end_stays o s at (omega arith))
enough (suc n) zero o s at h k = rw (end_stays o s at (omega arith))
enough (suc n) (suc m) o s at h k = go_on_same o s at (λ q. run_from n o s q) (λ q. run_from m o s q) (λ q l. enough n m o s q (omega arith) (omega arith))

pub run_on : (o : ByteOrder) (s : List ℕ) (at : ℕ) → run_at o s at ≡ go_on s at (read_record o s at) (λ past. run_at o s past)
unfolding run_from run_at
run_on o s at =
    let n = length s - at in
    enough n (suc n) o s at (omega arith) (omega arith)
    ∙ go_on_same o s at (λ q. run_from n o s q) (λ q. run_at o s q) (λ q l. enough n (length s - q) o s q (omega arith) (omega arith))

-- how many records a run gives: each takes 16 bytes or more of what is left
unfoldable pub steps : Run → ℕ
steps (record_then e start r) = suc (steps r)
steps then_end = 0
steps (then_refused n at) = 0

few-from : (n : ℕ) (o : ByteOrder) (s : List ℕ) (at : ℕ) → at ≤ length s → 16 * steps (run_from n o s at) + at ≤ length s
unfolding run_from steps
few-from zero o s at h = omega arith
few-from (suc n) o s at h = go (read_record o s at) refl (few-from n o s)
  where
    go : (x : Outcome) → read_record o s at ≡ x → ((q : ℕ) → q ≤ length s → 16 * steps (run_from n o s q) + q ≤ length s)
        → 16 * steps (go_on s at x (λ q. run_from n o s q)) + at ≤ length s
    go (found a b start len past) x ih =
        let p = found-places o s at a b start len past x in
        omega (arith, p.0, p.1, ih past p.2)
    go end x ih = omega arith
    go (refusal k) x ih = omega arith

pub few-records : (o : ByteOrder) (s : List ℕ) (at : ℕ) → at ≤ length s → 16 * steps (run_at o s at) + at ≤ length s
unfolding run_at
few-records o s at h = few-from (length s - at) o s at h
