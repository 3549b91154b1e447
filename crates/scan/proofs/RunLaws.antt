-- Laws of a run: what passing checks 1 to 3 says, in the numbers that the code compares, and what it means to the frame layer's reader.
-- Assumes nothing.
use Prim.Native.Nat.{ℕ, ◌+◌, ◌-◌, ◌≤◌}
use mathlib.Core.Path.{◌≡◌, refl, sym, ap, ◌∙◌}
use mathlib.Core.Logic.{◌⊎◌, inl, inr}
use mathlib.Core.List.{List}
use mathlib.Core.Bool.{Bool, true, false, cond, not, ◌&&◌, false≢true}
use native.Mathlib.Omega.{arith}
use native.Mathlib.Nat.{min-le_right}
use lib.Dec.{eqb, leb, ltb}
use lib.ListN.{length, take, length-take}
use lib.Seq.{length-take-le, get_or-take}
use borrow.Author.Tests.{eqb-true, ltb-false, not-true, le-leb, le-ltb, eq-eqb}
use Rattle.text.proofs.Bools.{and_left, and_right}
use Rattle.at.specs.Refusal.{OrRefused, refused, no}
use Rattle.edm.specs.Packet.{Packet, identifiers, carried}
use Rattle.edm.specs.Payload.{byte, word, read_payload}
use Rattle.edm.specs.Frame.{delimited, length_field, payload, read_frame}
use Rattle.edm.proofs.FrameLaws.{payload-length}
use Rattle.scan.specs.Cut.{passes, run}
use Rattle.scan.specs.Step.{kept_length}
use Rattle.std.specs.Prelude.{Some, None, is_some}

-- a test holds or fails
pub by_cases : {P : Type 0} (v : Bool) → (v ≡ true → P) → (v ≡ false → P) → P
by_cases true holds fails = holds refl
by_cases false holds fails = fails refl

-- what passes is read on: the frame layer refuses it with none of the checks 1 to 3
pub reads_on : (t : List ℕ) → passes t ≡ true → read_frame t ≡ read_payload (carried identifiers (word t 3)) 5 (payload t)
unfolding passes read_frame
reads_on t e = go (delimited t) (ltb (length t) 6) (eqb (length_field t) (length (payload t) + 2)) (read_payload (carried identifiers (word t 3)) 5 (payload t)) e
  where
    go : (d l m : Bool) (o : OrRefused Packet) → d && not l && m ≡ true → cond d (cond l (refused (no 2)) (cond m o (refused (no 3)))) (refused (no 1)) ≡ o
    go true false true o e = refl
    go true false false o e = absurd (false≢true e)
    go true true m o e = absurd (false≢true e)
    go false l m o e = absurd (false≢true e)

-- and what does not pass is refused with one of them
pub reads-not : (t : List ℕ) → passes t ≡ false → (read_frame t ≡ refused (no 1)) ⊎ ((read_frame t ≡ refused (no 2)) ⊎ (read_frame t ≡ refused (no 3)))
unfolding passes read_frame
reads-not t e = go (delimited t) (ltb (length t) 6) (eqb (length_field t) (length (payload t) + 2)) (read_payload (carried identifiers (word t 3)) 5 (payload t)) e
  where
    go : (d l m : Bool) (o : OrRefused Packet) → d && not l && m ≡ false → (cond d (cond l (refused (no 2)) (cond m o (refused (no 3)))) (refused (no 1)) ≡ refused (no 1))
        ⊎ ((cond d (cond l (refused (no 2)) (cond m o (refused (no 3)))) (refused (no 1)) ≡ refused (no 2)) ⊎ (cond d (cond l (refused (no 2)) (cond m o (refused (no 3)))) (refused (no 1)) ≡ refused (no 3)))
    go true false true o e = inl (cc)
    go true false false o e = inr (inr refl)
    go true true m o e = inr (inl refl)
    go false l m o e = inl refl

-- what passes, in numbers
pub record Passed (t : List ℕ) : Type 0 where
  pub first : byte t 0 ≡ 0xAA
  pub last : byte t (length t - 1) ≡ 0x55
  pub long : 6 ≤ length t
  pub sized : length_field t + 4 ≡ length t

pub passed : (t : List ℕ) → passes t ≡ true → Passed t
unfolding passes
passed t e =
    let a = leb 2 (length t) in
    let b = eqb (byte t 0) 0xAA in
    let d = eqb (byte t (length t - 1)) 0x55 in
    let l = not (ltb (length t) 6) in
    let m = eqb (length_field t) (length (payload t) + 2) in
    let two = and_left (a && b && d && l) m e in
    let one = and_left (a && b && d) l two in
    let h = ltb-false (length t) 6 (not-true (ltb (length t) 6) (and_right (a && b && d) l two)) in
    let n = eqb-true (length_field t) (length (payload t) + 2) (and_right (a && b && d && l) m e) in
    record {
      first = eqb-true (byte t 0) 0xAA (and_right a b (and_left (a && b) d one));
      last = eqb-true (byte t (length t - 1)) 0x55 (and_right (a && b) d one);
      long = h;
      sized = omega (arith, payload-length t);
    }

passes-by : (t : List ℕ) → Passed t → passes t ≡ true
unfolding passes
passes-by t p =
    let h = p.long in
    let z = p.sized in
    rw (
      le-leb 2 (length t) (omega arith),
      eq-eqb (byte t 0) 0xAA p.first,
      eq-eqb (byte t (length t - 1)) 0x55 p.last,
      le-ltb (length t) 6 h,
      eq-eqb (length_field t) (length (payload t) + 2) (omega (arith, payload-length t)),
    )

-- the run at the start of a dump stands whole: the tests that the code makes
pub record Stands (s : List ℕ) : Type 0 where
  pub first : byte s 0 ≡ 0xAA
  pub long : 2 ≤ length_field s
  pub whole : length_field s + 4 ≤ length s
  pub last : byte s (length_field s + 3) ≡ 0x55

-- a part from the start has the same length field
field-take : (n : ℕ) (s : List ℕ) → 3 ≤ n → length_field (take n s) ≡ length_field s
field-take n s h = rw (get_or-take n s 1 0 (omega arith), get_or-take n s 2 0 (omega arith))

-- where any run from here passes, it is the one of the masked length plus 4
only-run : (n : ℕ) (s : List ℕ) → n ≤ length s → passes (take n s) ≡ true → (n ≡ length_field s + 4) × Stands s
only-run n s h e =
    let p = passed (take n s) e in
    let l = length-take-le n s h in
    let g = p.long in
    let z = p.sized in
    let f = field-take n s (omega arith) in
    let m : n ≡ length_field s + 4 = omega arith in
    let q : length (take n s) - 1 ≡ length_field s + 3 = omega arith in (
      m,
      record {
        first = sym (get_or-take n s 0 0 (omega arith)) ∙ p.first;
        long = omega arith;
        whole = omega arith;
        last = sym (get_or-take n s (length_field s + 3) 0 (omega arith)) ∙ (rw q at p.last);
      },
    )

pub any_run : (n : ℕ) (s : List ℕ) → n ≤ length s → passes (take n s) ≡ true → take n s ≡ run s
unfolding run
any_run n s h e = ap (λ (k : ℕ). take k s) (only-run n s h e).0

module _ (s : List ℕ) where
  pub run_length : length_field s + 4 ≤ length s → length (run s) ≡ length_field s + 4
  unfolding run
  run_length h = length-take-le (length_field s + 4) s h

  pub stands : passes (run s) ≡ true → Stands s
  unfolding run
  stands e =
      let p = passed (run s) e in
      let z = p.sized in
      let f = field-take (length_field s + 4) s (omega arith) in
      let l = length-take (length_field s + 4) s in
      let m = min-le_right (length_field s + 4) (length s) in
      (only-run (length_field s + 4) s (omega arith) e).1

  stands_passes : Stands s → passes (run s) ≡ true
  unfolding run
  stands_passes h =
      let a = h.whole in
      let b = h.long in
      let n = length_field s + 4 in
      let l = length-take-le (length_field s + 4) s a in
      let q : length (take (length_field s + 4) s) - 1 ≡ length_field s + 3 = omega arith in
      let f = field-take (length_field s + 4) s (omega arith) in
      passes-by (take (length_field s + 4) s) (record {
        first = get_or-take (length_field s + 4) s 0 0 (omega arith) ∙ h.first;
        last = rw q (get_or-take (length_field s + 4) s (length_field s + 3) 0 (omega arith) ∙ h.last);
        long = omega arith;
        sized = omega arith;
      })

  -- the answers of the code
  pub kept_whole : Stands s → kept_length s ≡ Some (length_field s + 4)
  unfolding kept_length
  kept_whole h = rw (stands_passes h, run_length h.whole)

  pub kept-none : (Stands s → ⊥) → kept_length s ≡ None
  unfolding kept_length
  kept-none h = by_cases (passes (run s)) (λ e. absurd (h (stands e))) (λ e. rw e)

  -- and back
  pub is-kept : (n : ℕ) → kept_length s ≡ Some n → (passes (run s) ≡ true) × (n ≡ length (run s))
  unfolding kept_length
  is-kept n = go (passes (run s)) refl
    where
      go : (v : Bool) → passes (run s) ≡ v → cond v (Some (length (run s))) None ≡ Some n → (passes (run s) ≡ true) × (n ≡ length (run s))
      go true e q = (e, cc)
      go false e q = absurd cc

  pub is_skipped : kept_length s ≡ None → passes (run s) ≡ false
  unfolding kept_length
  is_skipped = go (passes (run s)) refl
    where
      go : (v : Bool) → passes (run s) ≡ v → cond v (Some (length (run s))) None ≡ None → passes (run s) ≡ false
      go true e q = absurd cc
      go false e q = e

  pub runs_here : (b : Bool) → b ≡ is_some (kept_length s) → passes (run s) ≡ b
  unfolding kept_length
  runs_here b = go (passes (run s)) refl
    where
      go : (v : Bool) → passes (run s) ≡ v → b ≡ is_some (cond v (Some (length (run s))) None) → passes (run s) ≡ b
      go true e q = e ∙ sym q
      go false e q = e ∙ sym q
