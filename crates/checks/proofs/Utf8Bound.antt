-- The well-formed part in front is no longer than the text.
use Prim.Native.Nat.{ℕ, zero, suc, ◌≤◌}
use mathlib.Core.List.{List, [], ◌∷◌}
use native.Mathlib.Omega.{arith}
use lib.ListN.{length}
use Rattle.text.specs.Utf8.{next, seq_len, passed, valid_up_to}

passed_le : (s : List ℕ) (k : ℕ) → passed s k ≤ length s
unfolding passed seq_len
passed_le [] k = omega arith
passed_le (b ∷ t) zero = go (seq_len (b ∷ t)) (λ k. passed_le t k)
  where
    go : (n : ℕ) → ((k : ℕ) → passed t k ≤ length t) → next n (passed t) ≤ suc (length t)
    go zero ih = omega arith
    go (suc k) ih = omega (arith, ih k)
passed_le (b ∷ t) (suc k) = omega (arith, passed_le t k)

pub valid_le : (s : List ℕ) → valid_up_to s ≤ length s
unfolding valid_up_to
valid_le s = passed_le s 0
