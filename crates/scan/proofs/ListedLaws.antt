-- Laws of the walk over the ranges that are kept. Assumes nothing.
use Prim.Native.Nat.{ℕ, suc, ◌+◌, ◌-◌, ◌≤◌, ◌<◌}
use mathlib.Core.Path.{◌≡◌}
use mathlib.Core.List.{List}
use mathlib.Core.Bool.{true, false}
use native.Mathlib.Omega.{arith}
use Rattle.scan.specs.Listed.{listed_at, kept_of, next_kept}
use Rattle.std.specs.Prelude.{Some, None}

module _ (list : List ℕ) (count i : ℕ) where
  pub kept_past : count ≤ i → next_kept list count i ≡ None
  unfolding kept_of
  kept_past h = let e : count - i ≡ 0 = omega arith in rw e

  left_one : i < count → count - i ≡ suc (count - (i + 1))
  left_one h = omega arith

  pub kept_here : i < count → (listed_at list i).kept ≡ true → next_kept list count i ≡ Some (record { start = (listed_at list i).start; len = (listed_at list i).len; next = i + 1 })
  unfolding kept_of
  kept_here h e = rw (left_one h, e)

  pub kept-later : i < count → (listed_at list i).kept ≡ false → next_kept list count i ≡ next_kept list count (i + 1)
  unfolding kept_of
  kept-later h e = rw (left_one h, e)
