-- Laws of the ranges. Assumes nothing.
use Prim.Native.Nat.{ℕ, zero, suc, ◌+◌, ◌-◌, ◌*◌, ◌≤◌, ◌<◌}
use mathlib.Core.Path.{◌≡◌, refl, sym, ap, ◌∙◌}
use mathlib.Core.List.{List, [], ◌∷◌}
use mathlib.Core.Bool.{true, false}
use native.Mathlib.Omega.{arith}
use lib.ListN.{length, get_or, take, drop, drop_of_length-le}
use native.Mathlib.Numerals.{add-one}
use lib.Seq.{drop-cons}
use Rattle.scan.specs.Cut.{passes, run, Piece, kept, skipped, ◌before◌, cut_after, cut, text, rows}
use Rattle.scan.specs.Step.{kept_length, skipped_length, Starts}
use Rattle.std.specs.Prelude.{Some, None}
use Rattle.scan.proofs.RunLaws.{by_cases, stands, run_length, is-kept, is_skipped}

-- the rule. What is in the range before is passed by
pub cut-after : (n : ℕ) (s : List ℕ) → cut_after n s ≡ cut (drop n s)
unfolding cut_after
cut-after zero s = refl
cut-after (suc n) [] = refl
cut-after (suc n) (b ∷ s) = cut-after n s

pub cut-nothing : cut [] ≡ []
unfolding cut_after
cut-nothing = refl

-- a run that passes is kept, and the search goes on after it
pub cut-kept : (s : List ℕ) → passes (run s) ≡ true → cut s ≡ kept (run s) ∷ cut (drop (length (run s)) s)
unfolding cut_after
cut-kept [] e = let h = (stands [] e).whole in absurd (omega arith)
cut-kept (b ∷ s) e =
    let h = (stands (b ∷ s) e).whole in
    let l = run_length (b ∷ s) h in
    let n : length (run (b ∷ s)) ≡ suc (length (run (b ∷ s)) - 1) = omega arith in
    rw e (ap (λ (ps : List Piece). kept (run (b ∷ s)) ∷ ps) (cut-after (length (run (b ∷ s)) - 1) s ∙ ap (λ (k : ℕ). cut (drop k (b ∷ s))) (sym n)))

-- else one byte is skipped
pub cut_skipped : (b : ℕ) (s : List ℕ) → passes (run (b ∷ s)) ≡ false → cut (b ∷ s) ≡ b before cut s
unfolding cut_after
cut_skipped b s e = rw e

-- the bytes that are skipped together
pub skips-none : (s : List ℕ) → passes (run s) ≡ true → skipped_length s ≡ 0
unfolding skipped_length
skips-none [] e = refl
skips-none (b ∷ s) e = rw e

pub skips-one : (b : ℕ) (s : List ℕ) → passes (run (b ∷ s)) ≡ false → skipped_length (b ∷ s) ≡ suc (skipped_length s)
unfolding skipped_length
skips-one b s e = rw e

pub skips-within : (s : List ℕ) → skipped_length s ≤ length s
unfolding skipped_length
skips-within [] = omega arith
skips-within (b ∷ s) =
    let h = skips-within s in
    by_cases (passes (run (b ∷ s))) (λ e. let z = skips-none (b ∷ s) e in omega arith) (λ e. let z = skips-one b s e in omega arith)

-- a skipped byte in front of what does not start with one
front_skipped : (b : ℕ) (s : List ℕ) → skipped_length s ≡ 0 → b before cut s ≡ skipped (b ∷ []) ∷ cut s
unfolding cut_after
front_skipped b [] h = refl
front_skipped b (x ∷ s) h =
    by_cases (passes (run (x ∷ s)))
    (λ e. ap (λ (ps : List Piece). b before ps) (cut-kept (x ∷ s) e) ∙ ap (λ (ps : List Piece). skipped (b ∷ []) ∷ ps) (sym (cut-kept (x ∷ s) e)))
    (λ e. let z = skips-one x s e in absurd (omega arith))

-- and in front of what does
joined : (b : ℕ) (s : List ℕ) (k : ℕ) → skipped_length s ≡ k → (0 < skipped_length s → cut s ≡ skipped (take (skipped_length s) s) ∷ cut (drop (skipped_length s) s))
    → b before cut s ≡ skipped (take (suc k) (b ∷ s)) ∷ cut (drop (suc k) (b ∷ s))
joined b s zero e more = front_skipped b s e
joined b s (suc k) e more = ap (λ (ps : List Piece). b before ps) (more (omega arith)) ∙ ap (λ (n : ℕ). skipped (b ∷ take n s) ∷ cut (drop n s)) e

pub cut-skips : (s : List ℕ) → 0 < skipped_length s → cut s ≡ skipped (take (skipped_length s) s) ∷ cut (drop (skipped_length s) s)
unfolding skipped_length
cut-skips [] h = absurd (omega arith)
cut-skips (b ∷ s) h =
    by_cases (passes (run (b ∷ s)))
    (λ e. let z = skips-none (b ∷ s) e in absurd (omega arith))
    (λ e. cut_skipped b s e ∙ rw (skips-one b s e) (joined b s (skipped_length s) refl (cut-skips s)))

-- what is left moves on, by a run that is kept or by bytes that are skipped
pub first-moves : (s : List ℕ) → 0 < length s → passes (run s) ≡ false → 0 < skipped_length s
first-moves [] h e = absurd (omega arith)
first-moves (b ∷ s) h e = let z = skips-one b s e in omega arith

-- the search for the next run, from place to place
module _ (s : List ℕ) (i : ℕ) where
  pub skips-stop : passes (run (drop i s)) ≡ true → skipped_length (drop i s) ≡ 0
  skips-stop h = skips-none (drop i s) h

  pub skips-end : length s ≤ i → skipped_length (drop i s) ≡ 0
  unfolding skipped_length
  skips-end h = rw (drop_of_length-le s h)

  pub skips-next : i < length s → passes (run (drop i s)) ≡ false → skipped_length (drop i s) ≡ suc (skipped_length (drop (i + 1) s))
  skips-next h e =
      let d = drop-cons s i 0 h in
      rw (add-one i, d) (skips-one (get_or s i 0) (drop (suc i) s) (rw d at e))

-- there are no more ranges than bytes
before-length : (b : ℕ) (ps : List Piece) → length (b before ps) ≤ suc (length ps)
before-length b [] = omega arith
before-length b (skipped t ∷ ps) = omega arith
before-length b (kept t ∷ ps) = omega arith

pub cut-length : (n : ℕ) (s : List ℕ) → length (cut_after n s) ≤ length s
unfolding cut_after
cut-length n [] = omega arith
cut-length (suc n) (b ∷ s) = let h = cut-length n s in omega arith
cut-length zero (b ∷ s) =
    let h = cut-length (length (run (b ∷ s)) - 1) s in
    let g = cut-length zero s in
    let k = before-length b (cut s) in
    by_cases (passes (run (b ∷ s))) (λ e. rw e (omega arith)) (λ e. rw e (omega arith))

-- and three numbers a range
pub rows-length : (at : ℕ) (ps : List Piece) → length (rows at ps) ≡ length ps * 3
unfolding rows
rows-length at [] = refl
rows-length at (p ∷ ps) = let h = rows-length (at + length (text p)) ps in omega arith

-- the first range of what is left, as the code answers it
pub starts_kept_lem : (s : List ℕ) (n : ℕ) → kept_length s ≡ Some n → Starts s (record { len = n; kept = true })
unfolding run
starts_kept_lem s n e =
    let k = is-kept s n e in
    let w = (stands s k.0).whole in
    let l = run_length s w in
    record { cuts = cut-kept s k.0 ∙ rw (← k.1, k.1 ∙ l); moves = omega (arith, k.1); within = omega (arith, k.1) }

pub starts_skipped : (s : List ℕ) (k : ℕ) → 0 < length s → kept_length s ≡ None → k ≡ skipped_length s → Starts s (record { len = k; kept = false })
starts_skipped s k h e f =
    let g = skips-within s in
    let m = first-moves s h (is_skipped s e) in
    record { cuts = rw f (cut-skips s m); moves = omega arith; within = omega arith }
