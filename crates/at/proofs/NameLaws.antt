-- Slices compared by the library hold the same bytes; names that differ in one letter do not.
use Prim.Native.Nat.{ℕ, ◌+◌, ◌<◌}
use mathlib.Core.Path.{◌≡◌, refl, ap, ◌∙◌}
use mathlib.Core.Bool.{Bool, true, false}
use mathlib.Core.List.{List, [], ◌∷◌}
use lib.ListN.{length, get_or}
use lib.Pointwise.{pointwise}
use Rattle.std.specs.Prelude.{nat_eq}
use Rattle.text.specs.Bytes.{same, part}
use Rattle.text.proofs.BytesLaws.{same_equal, part_at}

pub same_items : (a b : List ℕ) → pointwise nat_eq a b ≡ same a b
unfolding same
same_items [] [] = refl
same_items [] (y ∷ b) = refl
same_items (x ∷ a) [] = refl
same_items (x ∷ a) (y ∷ b) = rw (same_items a b)

-- names that differ in a letter differ
differ : (a b : List ℕ) (i : ℕ) → (get_or a i 0 ≡ get_or b i 0 → ⊥) → same a b ≡ false
differ a b i n = go (same a b) refl
  where
    go : (k : Bool) → same a b ≡ k → k ≡ false
    go true e = absurd (n (ap (λ l. get_or l i 0) (same_equal a b e)))
    go false e = refl

pub other : (name s : List ℕ) (at i : ℕ) → i < length name → (get_or name i 0 ≡ get_or s (at + i) 0 → ⊥) → same name (part s at (length name)) ≡ false
unfolding part
other name s at i h d = differ name (part s at (length name)) i (λ e. d (e ∙ part_at s at (length name) i h))
