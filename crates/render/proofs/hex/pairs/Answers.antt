use Prim.Native.Nat.{ℕ, ◌/◌, ◌%◌}
use mathlib.Core.Path.{◌≡◌, refl, ap}
use mathlib.Core.List.{List, [], ◌∷◌, ◌++◌}
use Rattle.std.proofs.lemmas.List.{take_more}
use Rattle.render.specs.Words.{digit, pairs_of}
use Rattle.render.proofs.PrintLaws.{prints_then, prints-none}
use Rattle.render.proofs.hex.pairs.Goals as goal

-- `hex::pairs` meets its contract. Assumes nothing.
pairs-more : (s : List ℕ) (b : ℕ) → pairs_of (s ++ b ∷ []) ≡ pairs_of s ++ digit (b / 16) ∷ [] ++ digit (b % 16) ∷ []
unfolding pairs_of
pairs-more [] b = refl
pairs-more (x ∷ s) b = ap (λ (l : List ℕ). digit (x / 16) ∷ digit (x % 16) ∷ l) (pairs-more s b)

pub loop-b-init : goal.loop-b-init
unfolding pairs_of
loop-b-init c = prints-none _ _

pub loop-b-preserved : goal.loop-b-preserved
loop-b-preserved c =
    let l = c.loop-b in
    let high = rw c.glyph.ensures at c.byte-to.ensures in
    let low = rw c.glyph-in-loop-b.ensures at c.byte-to-in-loop-b.ensures in
    rw (take_more c.args.s.now l.b-index 0 c.loop-b-test.true, pairs-more) (prints_then (prints_then l.invariant high) low)
