-- What a reader may rely on of the ranges: they cover the dump in order, no two skipped ones meet, a kept one passes, and no other function goes by this rule.
-- Assumes nothing.
use Prim.Native.Nat.{ℕ, zero, suc, ◌-◌, ◌≤◌, ◌<◌}
use mathlib.Core.Path.{◌≡◌, refl, sym, ap, ◌∙◌}
use mathlib.Core.List.{List, [], ◌∷◌, ◌++◌}
use mathlib.Core.Bool.{Bool, true, false, ◌&&◌}
use native.Mathlib.Omega.{arith}
use lib.ListN.{length, take, drop, take-append-drop, length-drop}
use lib.Seq.{drop-nil}
use Rattle.scan.specs.Cut.{passes, run, Piece, kept, skipped, ◌before◌, cut_after, cut, text}
use Rattle.scan.proofs.RunLaws.{by_cases, stands, run_length}
use Rattle.scan.proofs.CutLaws.{cut-nothing, cut-kept, cut_skipped}

-- the bytes of the ranges, one range after the other
abbrev pub joined : List Piece → List ℕ
joined [] = []
joined (p ∷ ps) = text p ++ joined ps

before-joined : (b : ℕ) (ps : List Piece) → joined (b before ps) ≡ b ∷ joined ps
before-joined b [] = refl
before-joined b (skipped t ∷ ps) = refl
before-joined b (kept t ∷ ps) = refl

pub run-taken : (s : List ℕ) → passes (run s) ≡ true → take (length (run s)) s ≡ run s
unfolding run
run-taken s e = rw (run_length s (stands s e).whole)

covers_from : (n : ℕ) (s : List ℕ) → joined (cut_after n s) ≡ drop n s
unfolding cut_after
covers_from n [] = sym (drop-nil n)
covers_from (suc n) (b ∷ s) = covers_from n s
covers_from zero (b ∷ s) =
    let n = length (run (b ∷ s)) - 1 in
    let ih = covers_from (length (run (b ∷ s)) - 1) s in
    let again = covers_from zero s in
    by_cases (passes (run (b ∷ s)))
    (λ e.
    let l = run_length (b ∷ s) (stands (b ∷ s) e).whole in
    let k : length (run (b ∷ s)) ≡ suc (length (run (b ∷ s)) - 1) = omega arith in
    let d : drop (length (run (b ∷ s)) - 1) s ≡ drop (length (run (b ∷ s))) (b ∷ s) = ap (λ (m : ℕ). drop m (b ∷ s)) (sym k) in
    let a : run (b ∷ s) ++ drop (length (run (b ∷ s))) (b ∷ s) ≡ b ∷ s = ap (λ (q : List ℕ). q ++ drop (length (run (b ∷ s))) (b ∷ s)) (sym (run-taken (b ∷ s) e)) ∙ take-append-drop (length (run (b ∷ s))) (b ∷ s) in
    rw e (ap (λ (q : List ℕ). run (b ∷ s) ++ q) (ih ∙ d) ∙ a))
    (λ e. rw e (before-joined b (cut s) ∙ ap (λ (q : List ℕ). b ∷ q) again))

-- the ranges cover the dump exactly and in order
pub covers : (s : List ℕ) → joined (cut s) ≡ s
covers s = covers_from zero s

-- no two skipped ranges meet
abbrev pub starts_kept : List Piece → Bool
starts_kept [] = true
starts_kept (kept t ∷ ps) = true
starts_kept (skipped t ∷ ps) = false

abbrev pub apart : List Piece → Bool
apart [] = true
apart (kept t ∷ ps) = apart ps
apart (skipped t ∷ ps) = starts_kept ps && apart ps

before_apart : (b : ℕ) (ps : List Piece) → apart ps ≡ true → apart (b before ps) ≡ true
before_apart b [] e = refl
before_apart b (skipped t ∷ ps) e = e
before_apart b (kept t ∷ ps) e = e

apart_from : (n : ℕ) (s : List ℕ) → apart (cut_after n s) ≡ true
unfolding cut_after
apart_from n [] = refl
apart_from (suc n) (b ∷ s) = apart_from n s
apart_from zero (b ∷ s) =
    let ih = apart_from (length (run (b ∷ s)) - 1) s in
    let again = apart_from zero s in
    by_cases (passes (run (b ∷ s))) (λ e. rw e ih) (λ e. rw e (before_apart b (cut s) again))

pub none_meet : (s : List ℕ) → apart (cut s) ≡ true
none_meet s = apart_from zero s

-- every kept range passes checks 1 to 3
abbrev pub kept_pass : List Piece → Bool
kept_pass [] = true
kept_pass (kept t ∷ ps) = passes t && kept_pass ps
kept_pass (skipped t ∷ ps) = kept_pass ps

before_pass : (b : ℕ) (ps : List Piece) → kept_pass ps ≡ true → kept_pass (b before ps) ≡ true
before_pass b [] e = refl
before_pass b (skipped t ∷ ps) e = e
before_pass b (kept t ∷ ps) e = e

pass_from : (n : ℕ) (s : List ℕ) → kept_pass (cut_after n s) ≡ true
unfolding cut_after
pass_from n [] = refl
pass_from (suc n) (b ∷ s) = pass_from n s
pass_from zero (b ∷ s) =
    let ih = pass_from (length (run (b ∷ s)) - 1) s in
    let again = pass_from zero s in
    by_cases (passes (run (b ∷ s))) (λ e. rw (e, ih, e)) (λ e. rw e (before_pass b (cut s) again))

pub all_pass : (s : List ℕ) → kept_pass (cut s) ≡ true
all_pass s = pass_from zero s

-- no place is kept but by this rule: whoever keeps and skips by it has these ranges
module _ (f : List ℕ → List Piece)
    (nothing : f [] ≡ [])
    (keeps : (s : List ℕ) → passes (run s) ≡ true → f s ≡ kept (run s) ∷ f (drop (length (run s)) s))
    (skips : (b : ℕ) (s : List ℕ) → passes (run (b ∷ s)) ≡ false → f (b ∷ s) ≡ b before f s)
  where
    step : (s : List ℕ) → ((t : List ℕ) → length t < length s → f t ≡ cut t) → f s ≡ cut s
    step [] shorter = nothing ∙ sym cut-nothing
    step (b ∷ s) shorter =
        by_cases (passes (run (b ∷ s)))
        (λ e.
        let l = run_length (b ∷ s) (stands (b ∷ s) e).whole in
        let d = length-drop (length (run (b ∷ s))) (b ∷ s) in
        keeps (b ∷ s) e ∙ ap (λ (ps : List Piece). kept (run (b ∷ s)) ∷ ps) (shorter (drop (length (run (b ∷ s))) (b ∷ s)) (omega arith)) ∙ sym (cut-kept (b ∷ s) e))
        (λ e. skips b s e ∙ ap (λ (ps : List Piece). b before ps) (shorter s (omega arith)) ∙ sym (cut_skipped b s e))

    up_to : (n : ℕ) (s : List ℕ) → length s ≤ n → f s ≡ cut s
    up_to zero s h = step s (λ t k. absurd (omega arith))
    up_to (suc n) s h = step s (λ t k. up_to n t (omega arith))

    pub one_rule : (s : List ℕ) → f s ≡ cut s
    one_rule s = up_to (length s) s (omega arith)
