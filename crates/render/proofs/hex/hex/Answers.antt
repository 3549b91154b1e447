use mathlib.Core.Path.{◌≡◌, refl, sym, ◌∙◌}
use mathlib.Core.List.{List, [], ◌∷◌}
use Prim.Native.Nat.{ℕ}
use native.Mathlib.Omega.{arith}
use borrow.Author.Tests.{eqb-true, eqb-false}
use lib.ListN.{length}
use Rattle.text.specs.Bytes.{bytes}
use Rattle.render.specs.Words.{pairs_of, hex_of}
use Rattle.render.proofs.hex.hex.Goals as goal

-- `hex::hex` meets its contract. Assumes nothing.
hex-none : (s : List ℕ) → length s ≡ 0 → hex_of s ≡ bytes "-"
hex-none [] e = refl
hex-none (b ∷ s) e = absurd (omega arith)

hex-some : (s : List ℕ) → (length s ≡ 0 → ⊥) → hex_of s ≡ pairs_of s
hex-some [] h = absurd (h refl)
hex-some (b ∷ s) h = refl

pub returns-then-is_empty : goal.returns-then-is_empty
returns-then-is_empty c =
    let none = eqb-true (length c.args.s.now) 0 (sym c.is_empty.ensures ∙ c.if-is_empty.true) in
    rw (hex-none _ none) c.word.ensures

pub returns-else-is_empty : goal.returns-else-is_empty
returns-else-is_empty c =
    let some = eqb-false (length c.args.s.now) 0 (sym c.is_empty.ensures ∙ c.if-is_empty.false) in
    rw (hex-some _ some) c.pairs.ensures
