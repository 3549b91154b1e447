-- The weight of fields, each its length and one more: how it is bounded by the text, and how it bounds the line of the values that are read from them.
use Prim.Native.Nat.{ℕ, zero, suc, ◌+◌, ◌*◌, ◌≤◌}
use mathlib.Core.Path.{◌≡◌, refl}
use mathlib.Core.List.{List, [], ◌∷◌, ◌++◌}
use mathlib.Core.Bool.{Bool, true, false, cond}
use native.Mathlib.Omega.{arith}
use lib.Dec.{eqb, ltb}
use lib.ListN.{length, take, drop, length-append, length-take, length-drop}
use borrow.Author.Tests.{ltb-true}
use Rattle.text.specs.Bytes.{bytes}
use Rattle.text.specs.Find.{first_of}
use Rattle.text.specs.Field.{Field, field, grow, fields_from}
use Rattle.at.specs.Refusal.{OrRefused, good, refused}
use Rattle.at.specs.Event.{Kind, Value, read_field, and_rest, take_kind, Read, values, prepend, and_then, take_kinds}
use Rattle.at.specs.Line.{before, fields_after}
use Rattle.at.specs.Binary.{fields_up_to}
use Rattle.render.specs.Words.{spaced_word, values_line}
use Rattle.render.proofs.WordLengths.{extra, spaced_within}

unfoldable pub weight : List Field → ℕ
weight [] = 0
weight (field p b ∷ fs) = suc (length b) + weight fs

weight_grow : (p b : ℕ) (fs : List Field) → weight (grow p b fs) ≤ suc (weight fs)
unfolding weight
weight_grow p b [] = omega arith
weight_grow p b (field q f ∷ fs) = omega arith

-- a text that is cut at every comma
weight_from : (p : ℕ) (s : List ℕ) → weight (fields_from p s) ≤ length s + 1
unfolding weight fields_from
weight_from p [] = omega arith
weight_from p (b ∷ s) = go (eqb b 44) (weight_from (suc p) s)
  where
    go : (t : Bool) → weight (fields_from (suc p) s) ≤ length s + 1
        → weight (cond t (field p [] ∷ fields_from (suc p) s) (grow p b (fields_from (suc p) s))) ≤ suc (length s) + 1
    go true h = omega arith
    go false h = omega (arith, weight_grow p b (fields_from (suc p) s))

-- and where it is cut at some commas only
pub weight_up_to : (n p : ℕ) (s : List ℕ) → weight (fields_up_to n p s) ≤ length s + 1
unfolding weight fields_up_to
weight_up_to zero p s = omega arith
weight_up_to (suc n) p [] = omega arith
weight_up_to (suc n) p (b ∷ s) = go (eqb b 44) (weight_up_to n (suc p) s) (weight_up_to (suc n) (suc p) s)
  where
    go : (t : Bool) → weight (fields_up_to n (suc p) s) ≤ length s + 1 → weight (fields_up_to (suc n) (suc p) s) ≤ length s + 1
        → weight (cond t (field p [] ∷ fields_up_to n (suc p) s) (grow p b (fields_up_to (suc n) (suc p) s))) ≤ suc (length s) + 1
    go true h k = omega arith
    go false h k = omega (arith, weight_grow p b (fields_up_to (suc n) (suc p) s))

-- the name, the colon and the fields are the whole text
pub weight_after : (p : ℕ) (t : List ℕ) → weight (fields_after p t) + length (before (bytes ":") t) ≤ length t
unfolding fields_after before
weight_after p t = go (first_of (bytes ":") t) (ltb (first_of (bytes ":") t) (length t)) refl
  where
    go : (i : ℕ) (k : Bool) → ltb i (length t) ≡ k → weight (cond k (fields_from (p + i + 1) (drop (i + 1) t)) []) + length (take i t) ≤ length t
    go i true k = omega (arith, ltb-true i (length t) k, weight_from (p + i + 1) (drop (i + 1) t), length-drop (i + 1) t, length-take i t)
    go i false k = unfold weight in omega (arith, length-take i t)

-- how much longer the line of the values of these kinds may be than twice the weight
unfoldable pub extras : List Kind → ℕ
extras [] = 0
extras (k ∷ ks) = extra k + extras ks

-- the values of fields, and values without a kind after them
pub values-within : (i : ℕ) (ks : List Kind) (fs : List Field) (src : List ℕ) (vs more : List Value) (rest : List Field) → take_kinds i ks fs ≡ good (values vs rest)
    → length (values_line ks src (vs ++ more)) ≤ 2 * weight fs + extras ks + length (values_line [] src more)
unfolding take_kinds take_kind extras weight
values-within i [] fs src vs more rest e = let f : vs ≡ [] = cc in rw f (omega arith)
values-within i (k ∷ ks) [] src vs more rest e = let z : ◌≡◌ {A = ℕ} 0 1 = cc in absurd (omega arith)
values-within i (k ∷ ks) (field p b ∷ fs) src vs more rest e = go (read_field i k p b) refl (take_kinds (suc i) ks fs) refl e (values-within (suc i) ks fs src)
  where
    go : (o : OrRefused Value) → read_field i k p b ≡ o → (r : OrRefused Read) → take_kinds (suc i) ks fs ≡ r → and_then (and_rest o fs) (λ l. take_kinds (suc i) ks l) ≡ good (values vs rest)
        → ((us more : List Value) (rest : List Field) → take_kinds (suc i) ks fs ≡ good (values us rest)
        → length (values_line ks src (us ++ more)) ≤ 2 * weight fs + extras ks + length (values_line [] src more))
        → length (values_line (k ∷ ks) src (vs ++ more)) ≤ 2 * (suc (length b) + weight fs) + (extra k + extras ks) + length (values_line [] src more)
    go (good v) o (good (values us l)) r e ih =
        let f : prepend v (good (values us l)) ≡ good (values vs rest) = rw r at e in
        let g : vs ≡ v ∷ us = cc in
        rw g (unfold values_line in omega (arith, length-append (spaced_word k src v) (values_line ks src (us ++ more)), spaced_within i k p b src v o, ih us more l r))
    go (good v) o (refused n) r e ih = let f : prepend v (refused n) ≡ good (values vs rest) = rw r at e in let z : ◌≡◌ {A = ℕ} 0 1 = cc in absurd (omega arith)
    go (refused n) o r q e ih = let z : ◌≡◌ {A = ℕ} 0 1 = cc in absurd (omega arith)
