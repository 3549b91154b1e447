-- The values of an event one after the other: what is still to be printed from a value on.
use Prim.Native.Nat.{ℕ, suc, ◌+◌, ◌≤◌, ◌<◌}
use mathlib.Core.Bool.{Bool, true, false}
use mathlib.Core.Path.{◌≡◌, refl}
use mathlib.Core.List.{List, [], ◌∷◌, ◌++◌}
use native.Mathlib.Numerals.{add-one}
use native.Mathlib.Omega.{arith}
use borrow.Author.Tests.{leb-true, leb-false}
use lib.Dec.{leb}
use lib.ListN.{length, drop, get_or, drop_of_length-le, get_or-eq_default}
use lib.Seq.{drop-cons}
use Rattle.at.specs.Event.{Kind, text, Value, num}
use Rattle.render.specs.Words.{spaced_word, values_line}

module _ (ks : List Kind) (src : List ℕ) (vs : List Value) where
  abbrev from : ℕ → List ℕ
  from i = values_line (drop i ks) src (drop i vs)

  pub values-done : (i : ℕ) → length vs ≤ i → from i ≡ []
  unfolding values_line
  values-done i h = rw (drop_of_length-le vs {i = i} h)

  pub values-next : (i : ℕ) → i < length vs → from i ≡ spaced_word (get_or ks i text) src (get_or vs i (num 0)) ++ from (i + 1)
  unfolding values_line
  values-next i h = rw (add-one i, drop-cons vs i (num 0) h) (go (leb (length ks) i) refl)
    where
      go : (b : Bool) → leb (length ks) i ≡ b
          → values_line (drop i ks) src (get_or vs i (num 0) ∷ drop (suc i) vs) ≡ spaced_word (get_or ks i text) src (get_or vs i (num 0)) ++ from (suc i)
      go true t =
          let k : length ks ≤ i = leb-true (length ks) i t in
          let l : length ks ≤ suc i = omega arith in
          rw (drop_of_length-le ks {i = i} k, drop_of_length-le ks {i = suc i} l, get_or-eq_default ks text {n = i} k)
      go false t = rw (drop-cons ks i text (leb-false (length ks) i t))
