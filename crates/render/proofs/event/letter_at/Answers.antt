use Prim.Native.Nat.{ℕ, zero, suc, ◌<◌}
use mathlib.Core.Path.{◌≡◌, refl, sym}
use mathlib.Core.List.{List, [], ◌∷◌}
use native.Mathlib.Nat.{le_of_suc-le-suc, not-suc-le-zero}
use lib.ListN.{length, get_or, length-map, get_or-eq_default}
use Rattle.at.specs.Event.{text}
use Rattle.render.specs.Steps.{kind_of, kinds_in}
use Rattle.render.proofs.event.letter_at.Goals as goal

-- `event::letter_at` meets its contract. Assumes nothing.
kind_at : (s : List ℕ) (i : ℕ) → i < length s → kind_of (get_or s i 0) ≡ get_or (kinds_in s) i text
kind_at [] i h = absurd (not-suc-le-zero h)
kind_at (b ∷ s) zero h = refl
kind_at (b ∷ s) (suc i) h = kind_at s i (le_of_suc-le-suc h)

pub returns-then-i-kinds : goal.returns-then-i-kinds
returns-then-i-kinds c = kind_at c.args.kinds.now c.args.i c.if-i-kinds.true

pub returns-else-i-kinds : goal.returns-else-i-kinds
unfolding kind_of
returns-else-i-kinds c =
    let s = c.args.kinds.now in
    sym (get_or-eq_default (kinds_in s) text {n = c.args.i} (rw (length-map s kind_of) c.if-i-kinds.false))
