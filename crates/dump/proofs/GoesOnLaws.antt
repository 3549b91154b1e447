-- Laws of the loop over the ranges of a window: after each range the state says the truth, and the loop ends where nothing more is decided. Assumes nothing.
use Rattle.std.proofs.Common.{◌≡◌, ℕ, suc, ◌+◌, ◌%◌, ◌^◌, ◌<◌, ◌≤◌, Bool, true, false, cond, leb, ◌⊎◌, List, [], ◌++◌, length, drop, sym, refl, ap, ◌∙◌, subst, inl, inr, add-one, arith, length-append, length-drop, length-take-le, leb-false, leb-true}
use Rattle.text.specs.Bytes.{part}
use Rattle.scan.specs.Cut.{cut}
use Rattle.scan.specs.Listed.{listed_at}
use Rattle.scan.specs.Window.{decided_places, decided_bytes, Reported}
use Rattle.scan.specs.declared.listed.Listed.{Listed}
use Rattle.scan.proofs.RunLaws.{by_cases}
use Rattle.scan.proofs.Ranges.{covers}
use Rattle.scan.proofs.Rows.{start_of, row_of, row_at, row-passes, row-run, row-skips, row-filled, row_ends, row_inside, starts_none, starts_end}
use Rattle.scan.proofs.Decided.{kept_decided, skipped_decided, decided_none, rest_undecided}
use Rattle.scan.proofs.Windows.{decided_enough, reported-kept, reported_skipped}
use Rattle.dump.specs.Window.{Lists, after_kept, after_skipped, Stands}
use Rattle.dump.specs.declared.window.Dumping.{Dumping}
use Rattle.dump.proofs.StandsLaws.{small, reported-size, kept_stands, skipped_stands}

-- the state goes on at range i, or where nothing more is decided
abbrev pub At : List ℕ → ℕ → ℕ → ℕ → Type 0
At src places i used = (used ≡ start_of (cut src) i) ⊎ ((places ≤ used) × (places ≤ start_of (cut src) i))

abbrev pub Going : List ℕ → ℕ → Dumping → Dumping → ℕ → Type 0
Going src places d r i =
    (whole follows : List ℕ) (is_end : Bool) → places ≡ decided_places (length src) is_end → (is_end ≡ true → follows ≡ []) → length whole < 2 ^ 64 → d.used ≡ 0
    → Stands whole (src ++ follows) d → Stands whole (drop r.used src ++ follows) r × At src places i r.used

pub going_start : (src : List ℕ) (places : ℕ) (d : Dumping) → Going src places d d 0
going_start src places d whole follows is_end p f b z s =
    (subst (λ (k : ℕ). Stands whole (drop k src ++ follows) d) (sym z) s, inl (z ∙ sym (starts_none (cut src))))

-- a range of the window
module _ (src list : List ℕ) (count : ℕ) (x : Lists src list count) (i : ℕ) (h : i < count) (q : Listed) (e : q ≡ listed_at list i) where
  there : i < length (cut src)
  there = let c = x.counts in omega arith

  is_row : q ≡ row_of (cut src) i
  is_row = e ∙ ap (λ (l : List ℕ). listed_at l i) x.holds ∙ row_at (cut src) x.more i there

  starts : q.start ≡ start_of (cut src) i
  starts = ap (λ (y : Listed). y.start) is_row

  ends : q.start + q.len ≡ start_of (cut src) (suc i)
  ends = row_ends src i there q is_row

  ends-inside : q.start + q.len ≤ length src
  ends-inside = row_inside src i there q is_row

  module _ (places : ℕ) where
    -- where nothing of it is decided, nothing after it is
    pub going-stop : (used : ℕ) → decided_bytes q places ≡ 0 → At src places i used → places ≤ used
    going-stop used z (inl u) = let f = row-filled src i there q is_row in omega (arith, rest_undecided q places (omega arith), starts)
    going-stop used z (inr k) = k.0

    module _ (n : ℕ) (d : n ≡ decided_bytes q places) (some : 0 < n) where
      fits : n ≤ q.len
      fits = by_cases q.kept (λ k. omega (arith, (kept_decided q places k (omega arith)).1)) (λ k. omega (arith, (skipped_decided q places k (omega arith)).0))

      place-next : At src places (suc i) (q.start + n)
      place-next = go (leb q.len n) refl
        where
          go : (t : Bool) → leb q.len n ≡ t → At src places (suc i) (q.start + n)
          go true l = let a = leb-true q.len n l in inl (omega (arith, fits, ends))
          go false l =
              let a = leb-false q.len n l in
              let b = rest_undecided q places (omega arith) in
              inr (omega arith, omega (arith, ends))

      -- the state is at its start
      place_here : (used : ℕ) → At src places i used → used ≡ q.start
      place_here used (inl u) = u ∙ sym starts
      place_here used (inr k) = let a = k.1 in let b = starts in let z = decided_none q places (omega arith) in absurd (omega arith)

      -- and after it, where the next range starts or where nothing more is decided
      module _ (first r next : Dumping)
          (y : next ≡ cond q.kept (after_kept r ((q.start + n) % 2 ^ 64) (part src q.start n) next.out) (after_skipped r ((q.start + n) % 2 ^ 64) n next.out))
          (g : Going src places first r i) (whole follows : List ℕ) (is_end : Bool) (pe : places ≡ decided_places (length src) is_end) (fe : is_end ≡ true → follows ≡ [])
          (bound : length whole < 2 ^ 64) (z : first.used ≡ 0) (s₀ : Stands whole (src ++ follows) first) where
        abbrev s : Stands whole (drop r.used src ++ follows) r
        s = (g whole follows is_end pe fe bound z s₀).0

        here : r.used ≡ q.start
        here = place_here r.used (g whole follows is_end pe fe bound z s₀).1

        so_far : Reported whole s.ps s.pending (drop q.start src ++ follows)
        so_far = subst (λ (k : ℕ). Reported whole s.ps s.pending (drop k src ++ follows)) here s.reported

        small_used : q.start + n < 2 ^ 64
        small_used =
            let a = reported-size whole s.ps s.pending (drop q.start src ++ follows) so_far in
            let b = length-append (drop q.start src) follows in
            let c = length-drop q.start src in
            omega (arith, s.stops, here, ends-inside, fits)

        part_long : length (part src q.start n) ≡ n
        unfolding part
        part_long = let c = length-drop q.start src in length-take-le n (drop q.start src) (omega (arith, ends-inside, fits))

        abbrev left : List ℕ
        left = drop ((q.start + n) % 2 ^ 64) src ++ follows

        after_kept_lem : q.kept ≡ true → Stands whole left (after_kept r ((q.start + n) % 2 ^ 64) (part src q.start n) next.out)
        after_kept_lem k =
            let kd = kept_decided q places k (omega arith) in
            let b = kd.0 in
            let whole_run = row-run src i there q is_row k ∙ sym (d ∙ kd.1) in
            let enough = decided_enough src follows is_end places q.start 1 pe fe (omega arith) b in
            let t = reported-kept whole s.ps s.pending src follows q.start so_far n enough (row-passes src i there q is_row k) whole_run in
            kept_stands whole bound (drop r.used src ++ follows) left r s (q.start + n) next.out small_used (part src q.start n) (omega (arith, here, part_long))
            (rw (small (q.start + n) small_used) t)

        after_skipped_lem : q.kept ≡ false → Stands whole left (after_skipped r ((q.start + n) % 2 ^ 64) n next.out)
        after_skipped_lem k =
            let sd = skipped_decided q places k (omega arith) in
            let b = sd.1 in
            let enough = decided_enough src follows is_end places q.start n pe fe (omega arith) (omega arith) in
            let l = row-skips src i there q is_row k in
            let t = reported_skipped whole s.ps s.pending src follows q.start so_far n enough (omega (arith, fits)) in
            skipped_stands whole bound (drop r.used src ++ follows) left r s (q.start + n) next.out small_used n (part src q.start n) part_long (omega (arith, here))
            (rw (small (q.start + n) small_used) t)

        going-by : (v : Dumping) → next ≡ v → v.used ≡ (q.start + n) % 2 ^ 64 → Stands whole (drop v.used src ++ follows) v → Stands whole (drop next.used src ++ follows) next × At src places (i + 1) next.used
        going-by v f w t =
            let u = ap (λ (m : Dumping). m.used) f ∙ w ∙ small (q.start + n) small_used in
            (subst (λ (m : Dumping). Stands whole (drop m.used src ++ follows) m) (sym f) t, rw (u, add-one i) place-next)

        pub going_step : Stands whole (drop next.used src ++ follows) next × At src places (i + 1) next.used
        going_step =
            by_cases q.kept
            (λ k. going-by (after_kept r ((q.start + n) % 2 ^ 64) (part src q.start n) next.out) (y ∙ rw k) refl (after_kept_lem k))
            (λ k. going-by (after_skipped r ((q.start + n) % 2 ^ 64) n next.out) (y ∙ rw k) refl (after_skipped_lem k))

-- after the last range all is decided that can be
pub going_end : (src list : List ℕ) (count : ℕ) (x : Lists src list count) (places i used : ℕ) (is_end : Bool) → places ≡ decided_places (length src) is_end → i ≡ count → At src places i used → places ≤ used
going_end src list count x places i used is_end pe e (inl u) =
    let a = ap (start_of (cut src)) (e ∙ x.counts) ∙ starts_end (cut src) ∙ ap length (covers src) in
    go is_end pe (u ∙ a)
  where
    go : (t : Bool) → places ≡ decided_places (length src) t → used ≡ length src → places ≤ used
    go true f l = omega arith
    go false f l = omega arith
going_end src list count x places i used is_end pe e (inr k) = k.0
