-- Laws of what is decided in a window. Assumes nothing.
use Prim.Native.Nat.{ℕ, ◌+◌, ◌-◌, ◌≤◌, ◌<◌}
use lib.Dec.{ltb, leb}
use mathlib.Core.Path.{◌≡◌, refl, ◌∙◌}
use mathlib.Core.Bool.{Bool, true, false}
use native.Mathlib.Omega.{arith}
use native.Mathlib.Nat.{min-eq_left, min-eq_right}
use borrow.Author.Tests.{leb-true, leb-false, lt-ltb, le-ltb, ltb-true, ltb-false}
use Rattle.scan.specs.Window.{decided_bytes}
use Rattle.scan.specs.declared.listed.Listed.{Listed}

module _ (r : Listed) (places : ℕ) where
  pub decided_kept : r.kept ≡ true → r.start < places → decided_bytes r places ≡ r.len
  decided_kept e h = rw (e, lt-ltb r.start places h)

  pub decided_whole : r.kept ≡ false → r.len ≤ places - r.start → decided_bytes r places ≡ r.len
  decided_whole e h = rw e (min-eq_left h)

  pub decided_front : r.kept ≡ false → places - r.start ≤ r.len → decided_bytes r places ≡ places - r.start
  decided_front e h = rw e (min-eq_right h)

  pub decided_none : places ≤ r.start → decided_bytes r places ≡ 0
  decided_none h = go r.kept refl
    where
      go : (k : Bool) → r.kept ≡ k → decided_bytes r places ≡ 0
      go true e = rw (e, le-ltb r.start places h)
      go false e = let z : places - r.start ≡ 0 = omega arith in decided_front e (omega arith) ∙ z

  -- a range of which some bytes are decided starts at a decided place: a kept one is decided as a whole, a skipped one up to the last such place
  pub kept_decided : r.kept ≡ true → 0 < decided_bytes r places → (r.start < places) × (decided_bytes r places ≡ r.len)
  kept_decided e h = go (ltb r.start places) refl
    where
      go : (t : Bool) → ltb r.start places ≡ t → (r.start < places) × (decided_bytes r places ≡ r.len)
      go true l = let k = ltb-true r.start places l in (k, decided_kept e k)
      go false l = let z = decided_none (ltb-false r.start places l) in absurd (omega arith)

  pub skipped_decided : r.kept ≡ false → 0 < decided_bytes r places → (decided_bytes r places ≤ r.len) × (r.start + decided_bytes r places ≤ places)
  skipped_decided e h = go (leb r.len (places - r.start)) refl
    where
      go : (t : Bool) → leb r.len (places - r.start) ≡ t → (decided_bytes r places ≤ r.len) × (r.start + decided_bytes r places ≤ places)
      go true l = let k = leb-true r.len (places - r.start) l in let d = decided_whole e k in (omega arith, omega arith)
      go false l =
          let k = leb-false r.len (places - r.start) l in
          let d = decided_front e (omega arith) in
          (omega arith, omega arith)

  -- where not all of a range is decided, no place after what is decided of it is
  pub rest_undecided : decided_bytes r places < r.len → places ≤ r.start + decided_bytes r places
  rest_undecided h = go r.kept (ltb r.start places) refl refl
    where
      go : (k t : Bool) → r.kept ≡ k → ltb r.start places ≡ t → places ≤ r.start + decided_bytes r places
      go k false e l = let d = ltb-false r.start places l in omega arith
      go true true e l = let d = decided_kept e (ltb-true r.start places l) in absurd (omega arith)
      go false true e l =
          let s = ltb-true r.start places l in
          by_size (leb r.len (places - r.start)) refl
        where
          by_size : (m : Bool) → leb r.len (places - r.start) ≡ m → places ≤ r.start + decided_bytes r places
          by_size true f = let d = decided_whole e (leb-true r.len (places - r.start) f) in absurd (omega arith)
          by_size false f =
              let g = leb-false r.len (places - r.start) f in
              let d = decided_front e (omega arith) in
              let s = ltb-true r.start places l in
              omega arith
