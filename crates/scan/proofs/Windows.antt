-- A window on a longer dump: what is decided in it stays, whatever follows. Assumes nothing.
use Prim.Native.Nat.{ℕ, zero, suc, ◌+◌, ◌≤◌, ◌<◌}
use mathlib.Core.Path.{◌≡◌, refl, sym, ap, ◌∙◌}
use mathlib.Core.Logic.{◌⊎◌, inl, inr}
use mathlib.Core.List.{List, [], ◌∷◌, ◌++◌, append_assoc, append-nil}
use mathlib.Core.Bool.{Bool, true, false}
use native.Mathlib.Omega.{arith}
use lib.ListN.{length, take, drop, length-drop, get_or-append}
use lib.Seq.{take-append-le, drop-append-le, drop-drop}
use Rattle.text.specs.Bytes.{part}
use Rattle.edm.specs.Frame.{length_field}
use Rattle.scan.specs.Cut.{passes, run, Piece, kept, ◌before◌, cut}
use Rattle.scan.specs.Step.{skipped_length}
use Rattle.scan.specs.Window.{decided_places, skipping, Reported, closed}
use Rattle.scan.proofs.RunLaws.{by_cases, stands, run_length}
use Rattle.scan.proofs.Ranges.{run-taken}
use Rattle.scan.proofs.CutLaws.{cut-nothing, cut-kept, cut_skipped, skips-none, skips-one, skips-within}

-- so many bytes are at hand, or nothing follows
abbrev pub Enough : ℕ → List ℕ → List ℕ → Type 0
Enough n a b = (n ≤ length a) ⊎ (b ≡ [])

-- the run is here if its longest could be
field-stays : (a b : List ℕ) → 3 ≤ length a → length_field (a ++ b) ≡ length_field a
field-stays a b h = rw (get_or-append a b 0 1 (omega arith), get_or-append a b 0 2 (omega arith))

run-stays : (a b : List ℕ) → Enough 4099 a b → run (a ++ b) ≡ run a
unfolding run
run-stays a b (inl h) = rw (field-stays a b (omega arith)) (take-append-le (length_field a + 4) a b (omega arith))
run-stays a b (inr z) = rw (z, append-nil a)

-- a run that is kept here
kept-stays : (a b : List ℕ) → Enough 4099 a b → passes (run a) ≡ true → cut (a ++ b) ≡ kept (run a) ∷ cut (drop (length (run a)) a ++ b)
kept-stays a b h e =
    let r = run-stays a b h in
    let w = (stands a e).whole in
    let l = run_length a w in
    cut-kept (a ++ b) (rw r e) ∙ rw (r, drop-append-le (length (run a)) a b (omega arith))

-- bytes that are skipped here
less : (k : ℕ) (x : ℕ) (a b : List ℕ) → Enough (suc k + 4098) (x ∷ a) b → Enough (k + 4098) a b × Enough 4099 (x ∷ a) b
less k x a b (inl h) = (inl (omega arith), inl (omega arith))
less k x a b (inr z) = (inr z, inr z)

skipped_stays : (k : ℕ) (a b : List ℕ) → Enough (k + 4098) a b → k ≤ skipped_length a → cut (a ++ b) ≡ skipping (take k a) (cut (drop k a ++ b))
skipped_stays zero a b g h = refl
skipped_stays (suc k) [] b g h = let z = skips-within [] in absurd (omega arith)
skipped_stays (suc k) (x ∷ a) b g h =
    by_cases (passes (run (x ∷ a)))
    (λ e. let z = skips-none (x ∷ a) e in absurd (omega arith))
    (λ e.
    let one = skips-one x a e in
    let l = less k x a b g in
    let r = run-stays (x ∷ a) b l.1 in
    cut_skipped x (a ++ b) (rw r e) ∙ ap (λ (ps : List Piece). x before ps) (skipped_stays k a b l.0 (omega arith)))

-- skipped bytes in front of ranges: joined with more of them, in front of one that is kept, and at the end
skipping_append : (s t : List ℕ) (ps : List Piece) → skipping (s ++ t) ps ≡ skipping s (skipping t ps)
skipping_append [] t ps = refl
skipping_append (b ∷ s) t ps = ap (λ (qs : List Piece). b before qs) (skipping_append s t ps)

skipping-kept : (s t : List ℕ) (ps : List Piece) → skipping s (kept t ∷ ps) ≡ closed s ++ kept t ∷ ps
skipping-kept [] t ps = refl
skipping-kept (b ∷ []) t ps = refl
skipping-kept (b ∷ x ∷ s) t ps = ap (λ (qs : List Piece). b before qs) (skipping-kept (x ∷ s) t ps)

skipping-nothing : (s : List ℕ) → skipping s [] ≡ closed s
skipping-nothing [] = refl
skipping-nothing (b ∷ []) = refl
skipping-nothing (b ∷ x ∷ s) = ap (λ (qs : List Piece). b before qs) (skipping-nothing (x ∷ s))

-- from the start, where nothing is reported, to the end, where all is
pub reported-nothing : (whole : List ℕ) → Reported whole [] [] whole
reported-nothing whole = record { ranges = refl }

pub reported_all : (whole : List ℕ) (ps : List Piece) (pending : List ℕ) → Reported whole ps pending [] → cut whole ≡ ps ++ closed pending
reported_all whole ps pending t = t.ranges ∙ ap (λ (qs : List Piece). ps ++ skipping pending qs) cut-nothing ∙ ap (λ (qs : List Piece). ps ++ qs) (skipping-nothing pending)

-- in between, at a place of the window from which on the dump is still to be reported
module _ (whole : List ℕ) (ps : List Piece) (pending a b : List ℕ) (start : ℕ) (t : Reported whole ps pending (drop start a ++ b)) where
  -- a frame is kept there: the skipped bytes before it are reported, and then it is
  pub reported-kept : (n : ℕ) → Enough 4099 (drop start a) b → passes (run (drop start a)) ≡ true → length (run (drop start a)) ≡ n
      → Reported whole (ps ++ closed pending ++ kept (part a start n) ∷ []) [] (drop (start + n) a ++ b)
  unfolding part
  reported-kept n h e l =
      let rest = cut (drop n (drop start a) ++ b) in
      let k = kept-stays (drop start a) b h e in
      let r : run (drop start a) ≡ take n (drop start a) = sym (rw l at (run-taken (drop start a) e)) in
      let w = ap (skipping pending) (rw (l, r) at k) ∙ skipping-kept pending (take n (drop start a)) rest in
      record { ranges = t.ranges ∙ ap (λ (q : List Piece). ps ++ q) w ∙ rw (drop-drop n start a) (simp append_assoc) }

  -- bytes are skipped there: they join those before them
  pub reported_skipped : (n : ℕ) → Enough (n + 4098) (drop start a) b → n ≤ skipped_length (drop start a) → Reported whole ps (pending ++ part a start n) (drop (start + n) a ++ b)
  unfolding part
  reported_skipped n g h =
      let w = ap (skipping pending) (skipped_stays n (drop start a) b g h) in
      record { ranges = t.ranges ∙ rw (skipping_append pending (take n (drop start a)) (cut (drop (start + n) a ++ b)), ← drop-drop n start a) (ap (λ (q : List Piece). ps ++ q) w) }

-- what is decided at a place has enough bytes at hand
pub decided_enough : (a b : List ℕ) (is_end : Bool) (places start n : ℕ) → places ≡ decided_places (length a) is_end → (is_end ≡ true → b ≡ []) → start + n ≤ places → start < places
    → Enough (n + 4098) (drop start a) b
decided_enough a b true places start n e f h g = inr (f refl)
decided_enough a b false places start n e f h g = let l = length-drop start a in inl (omega arith)
