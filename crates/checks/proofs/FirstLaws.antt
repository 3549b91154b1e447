-- Laws of the first byte b of a text, and of a text that is part of another.
use Prim.Native.Nat.{ℕ, zero, suc, ◌<◌}
use mathlib.Core.Path.{◌≡◌, refl, sym, ap, ◌∙◌}
use mathlib.Core.List.{List, [], ◌∷◌, ◌++◌}
use mathlib.Core.Bool.{Bool, true, false, cond}
use native.Mathlib.Omega.{arith}
use lib.Dec.{eqb}
use lib.ListN.{length, take, drop}
use borrow.Author.Tests.{eq-eqb, eqb-true}
use Rattle.text.specs.Bytes.{starts_with}
use Rattle.text.specs.Find.{first_of}
use Rattle.text.proofs.Bools.{and_id}

first_step : (b x : ℕ) (u : List ℕ) → first_of (b ∷ []) (x ∷ u) ≡ cond (eqb x b) 0 (suc (first_of (b ∷ []) u))
unfolding first_of starts_with
first_step b x u = rw (and_id (eqb x b))

-- a text that has none
abbrev pub Lacks : ℕ → List ℕ → Type 0
Lacks b u = first_of (b ∷ []) u ≡ length u

lacks_tail : (b x : ℕ) (u : List ℕ) → Lacks b (x ∷ u) → (eqb x b ≡ false) × Lacks b u
lacks_tail b x u e = go (eqb x b) (sym (first_step b x u) ∙ e)
  where
    go : (k : Bool) → cond k 0 (suc (first_of (b ∷ []) u)) ≡ suc (length u) → (k ≡ false) × Lacks b u
    go true f = absurd (omega arith)
    go false f = (refl, omega arith)

pub lacks_drop : (b i : ℕ) (u : List ℕ) → Lacks b u → Lacks b (drop i u)
unfolding first_of
lacks_drop b zero u e = e
lacks_drop b (suc i) [] e = refl
lacks_drop b (suc i) (x ∷ u) e = lacks_drop b i u (lacks_tail b x u e).1

pub lacks_before : (b : ℕ) (u : List ℕ) → Lacks b (take (first_of (b ∷ []) u) u)
lacks_before b [] = unfold first_of in refl
lacks_before b (x ∷ u) = rw (first_step b x u) (go (eqb x b) refl (lacks_before b u))
  where
    go : (k : Bool) → eqb x b ≡ k → Lacks b (take (first_of (b ∷ []) u) u)
        → Lacks b (take (cond k 0 (suc (first_of (b ∷ []) u))) (x ∷ u))
    go true q i = unfold first_of in refl
    go false q i = first_step b x (take (first_of (b ∷ []) u) u) ∙ rw q (ap suc i)

pub first_there : (b : ℕ) (u : List ℕ) → first_of (b ∷ []) u < length u → drop (first_of (b ∷ []) u) u ≡ b ∷ drop (suc (first_of (b ∷ []) u)) u
first_there b [] h = absurd (omega arith)
first_there b (x ∷ u) h = rw (first_step b x u) (go (eqb x b) refl (rw (first_step b x u) at h) (first_there b u))
  where
    go : (k : Bool) → eqb x b ≡ k → cond k 0 (suc (first_of (b ∷ []) u)) < suc (length u)
        → (first_of (b ∷ []) u < length u → drop (first_of (b ∷ []) u) u ≡ b ∷ drop (suc (first_of (b ∷ []) u)) u)
        → drop (cond k 0 (suc (first_of (b ∷ []) u))) (x ∷ u) ≡ b ∷ drop (suc (cond k 0 (suc (first_of (b ∷ []) u)))) (x ∷ u)
    go true q h ih = rw (eqb-true x b q)
    go false q h ih = ih (omega arith)

pub first-at : (b : ℕ) (u w : List ℕ) → Lacks b u → first_of (b ∷ []) (u ++ b ∷ w) ≡ length u
first-at b [] w e = first_step b b w ∙ rw (eq-eqb b b refl)
first-at b (x ∷ u) w e =
    let l = lacks_tail b x u e in
    first_step b x (u ++ b ∷ w) ∙ rw l.0 (ap suc (first-at b u w l.1))

pub first_front : (b : ℕ) (u w : List ℕ) → first_of (b ∷ []) u < length u → first_of (b ∷ []) (u ++ w) ≡ first_of (b ∷ []) u
first_front b [] w h = absurd (omega arith)
first_front b (x ∷ u) w h = first_step b x (u ++ w) ∙ go (eqb x b) (rw (first_step b x u) at h) (first_front b u w) ∙ sym (first_step b x u)
  where
    go : (k : Bool) → cond k 0 (suc (first_of (b ∷ []) u)) < suc (length u)
        → (first_of (b ∷ []) u < length u → first_of (b ∷ []) (u ++ w) ≡ first_of (b ∷ []) u)
        → cond k 0 (suc (first_of (b ∷ []) (u ++ w))) ≡ cond k 0 (suc (first_of (b ∷ []) u))
    go true h ih = refl
    go false h ih = ap suc (ih (omega arith))
