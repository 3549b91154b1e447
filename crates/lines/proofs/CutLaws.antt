-- A text cut at the first place of a mark, as a search finds it.
use Prim.Native.Nat.{ℕ, ◌+◌, ◌-◌, ◌≤◌}
use mathlib.Core.Path.{◌≡◌, refl, sym, ap, ◌∙◌}
use mathlib.Core.List.{List}
use mathlib.Core.Bool.{Bool, true, false, cond}
use native.Mathlib.Omega.{arith}
use lib.Dec.{ltb}
use lib.ListN.{length, take, drop, length-drop}
use lib.Seq.{drop-drop}
use borrow.Author.Tests.{lt-ltb, le-ltb, ltb-false}
use Rattle.text.specs.Bytes.{part}
use Rattle.text.specs.Find.{first_of, first_from}
use Rattle.std.specs.Prelude.{Some, None}
use Rattle.text.proofs.BytesLaws.{part-rest}
use Rattle.text.proofs.FindLaws.{from_at}
use Rattle.lines.specs.Cut.{cut, whole, cut_at}

module _ (mark s : List ℕ) (from : ℕ) where
  pub cut_there : (i : ℕ) → first_from mark s from ≡ Some i → cut_at mark (drop from s) ≡ cut (part s from (i - from)) (drop (i + 1) s)
  unfolding cut_at part
  cut_there i e =
      let f = from_at mark s from i e in
      let k : i - from ≡ first_of mark (drop from s) = omega (arith, f.0) in
      let n : from + (first_of mark (drop from s) + 1) ≡ i + 1 = omega (arith, f.0) in
      rw (lt-ltb (first_of mark (drop from s)) (length (drop from s)) (omega (arith, f.0, f.1, length-drop from s)), drop-drop (first_of mark (drop from s) + 1) from s, n, k)

  pub cut-nowhere : first_from mark s from ≡ None → cut_at mark (drop from s) ≡ whole
  unfolding first_from cut_at
  cut-nowhere e = go (ltb (from + first_of mark (drop from s)) (length s)) refl e
    where
      go : (k : Bool) → ltb (from + first_of mark (drop from s)) (length s) ≡ k → cond k (Some (from + first_of mark (drop from s))) None ≡ None
          → cond (ltb (first_of mark (drop from s)) (length (drop from s))) (cut (take (first_of mark (drop from s)) (drop from s)) (drop (first_of mark (drop from s) + 1) (drop from s))) whole ≡ whole
      go true q e = let z : ◌≡◌ {A = ℕ} 0 1 = cc in absurd (omega arith)
      go false q e = rw (le-ltb (first_of mark (drop from s)) (length (drop from s)) (omega (arith, length-drop from s, ltb-false (from + first_of mark (drop from s)) (length s) q)))

-- what is cut off where a search finds its mark, and nothing where it finds none
module _ (mark s : List ℕ) where
  pub found-cut : (i : ℕ) → first_from mark s 0 ≡ Some i → cut_at mark s ≡ cut (part s 0 i) (part s (i + 1) (length s))
  found-cut i e =
      let z : i - 0 ≡ i = omega arith in
      cut_there mark s 0 i e ∙ ap (λ (k : ℕ). cut (part s 0 k) (drop (i + 1) s)) z ∙ ap (cut (part s 0 i)) (sym (part-rest s (i + 1)))

  pub found_none : first_from mark s 0 ≡ None → cut_at mark s ≡ whole
  found_none e = cut-nowhere mark s 0 e

-- both texts are shorter than the one that is cut
pub cut-shorter : (mark s front rest : List ℕ) → cut front rest ≡ cut_at mark s → length rest ≤ length s
unfolding cut_at
cut-shorter mark s front rest e = go (ltb (first_of mark s) (length s)) e
  where
    go : (k : Bool) → cut front rest ≡ cond k (cut (take (first_of mark s) s) (drop (first_of mark s + 1) s)) whole → length rest ≤ length s
    go true e = let q : rest ≡ drop (first_of mark s + 1) s = cc in rw q (omega (arith, length-drop (first_of mark s + 1) s))
    go false e = let z : ◌≡◌ {A = ℕ} 0 1 = cc in absurd (omega arith)
