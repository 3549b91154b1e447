-- Laws of bytes that stand at a place of a slice and are UTF-8: a text is cut only at bytes below 128, so its parts stand where they say and are UTF-8
-- too, and so are its fields. Assumes nothing.
use Prim.Native.Nat.{ℕ, zero, suc, ◌+◌, ◌≤◌, ◌<◌}
use mathlib.Core.Path.{◌≡◌, refl, sym, ap, ◌∙◌}
use mathlib.Core.List.{List, [], ◌∷◌, ◌++◌, append-nil, append_assoc}
use mathlib.Core.Bool.{Bool, true, false, cond}
use native.Mathlib.Omega.{arith}
use lib.Dec.{ltb}
use lib.ListN.{length, take, drop, take-append-drop, length-append, length-drop}
use lib.Seq.{length-take-le, take_all, take-append_seam, drop-append_seam, drop-drop}
use borrow.Author.Tests.{ltb-true, ltb-false}
use Rattle.text.specs.Bytes.{starts_with, part}
use Rattle.text.specs.Find.{first_of}
use Rattle.text.specs.Utf8.{utf8}
use Rattle.text.specs.Field.{Field, field, fields_from}
use Rattle.text.proofs.Bools.{by_test}
use Rattle.text.proofs.BytesLaws.{starts_split}
use Rattle.text.proofs.FieldLaws.{comma, fields_comma, fields_last}
use Rattle.text.proofs.Utf8Joined.{whole, is_whole, joined, utf8-cut, utf8-after, utf8_nil}
use Rattle.at.specs.Line.{before, fields_after}
use Rattle.at.specs.Binary.{fields_up_to}
use Rattle.at.specs.Typed.{TextAt}
use Rattle.at.proofs.BinaryLaws.{up_to_comma, up_to_last, up_to_none}

-- A text found in another

pub first_found : (u t : List ℕ) → first_of u t < length t → starts_with (drop (first_of u t) t) u ≡ true
unfolding first_of
first_found u [] h = absurd (omega arith)
first_found u (x ∷ t) h = go (starts_with (x ∷ t) u) refl h (first_found u t)
  where
    go : (k : Bool) → starts_with (x ∷ t) u ≡ k → cond k 0 (suc (first_of u t)) < suc (length t) → (first_of u t < length t → starts_with (drop (first_of u t) t) u ≡ true)
        → starts_with (drop (cond k 0 (suc (first_of u t))) (x ∷ t)) u ≡ true
    go true e h ih = e
    go false e h ih = ih (omega arith)

found-split : (u t : List ℕ) (i : ℕ) → starts_with (drop i t) u ≡ true → t ≡ take i t ++ (u ++ drop (i + length u) t)
found-split u t i e = sym (take-append-drop i t) ∙ ap (λ (l : List ℕ). take i t ++ l) (starts_split (drop i t) u e ∙ rw (drop-drop (length u) i t))

-- what stands before a text that begins with a byte below 128 is UTF-8 where the whole is
pub before-utf8 : (x : ℕ) (u t : List ℕ) → x < 0x80 → utf8 t ≡ true → utf8 (before (x ∷ u) t) ≡ true
unfolding before
before-utf8 x u t h e = go (first_of (x ∷ u) t) refl (ltb (first_of (x ∷ u) t) (length t)) refl
  where
    go : (i : ℕ) → first_of (x ∷ u) t ≡ i → (k : Bool) → ltb i (length t) ≡ k → utf8 (take i t) ≡ true
    go i f true k =
        let b = first_found (x ∷ u) t (rw f (ltb-true i (length t) k)) in
        let g = found-split (x ∷ u) t i (rw f at b) in
        (utf8-cut (take i t) x (u ++ drop (i + length (x ∷ u)) t) h (rw (← g) e)).0
    go i f false k = rw (take_all i t (ltb-false i (length t) k)) e

-- what follows UTF-8 is UTF-8 where the whole is
pub utf8-rest : (a b : List ℕ) → utf8 (a ++ b) ≡ true → utf8 a ≡ true → utf8 b ≡ true
utf8-rest a b e f = is_whole b (omega (arith, whole (a ++ b) e, joined a b f, length-append a b))

-- bytes that stand at the place p of s
abbrev pub Stands : List ℕ → ℕ → List ℕ → Type 0
Stands s p t = (after : List ℕ) × (drop p s ≡ t ++ after)

-- and that are UTF-8
abbrev pub Held : List ℕ → ℕ → List ℕ → Type 0
Held s p t = Stands s p t × (utf8 t ≡ true)

abbrev pub FieldsHeld : List ℕ → List Field → Type 0
FieldsHeld s [] = Unit {0}
FieldsHeld s (field p b ∷ fs) = Held s p b × FieldsHeld s fs

module _ (s : List ℕ) where
  -- Where parts stand

  pub stands_rest : (p : ℕ) → Stands s p (drop p s)
  stands_rest p = ([], sym (append-nil (drop p s)))

  pub stands_front : (p : ℕ) (a b : List ℕ) → Stands s p (a ++ b) → Stands s p a
  stands_front p a b h = (b ++ h.0, h.1 ∙ append_assoc a b h.0)

  stands_behind : (p : ℕ) (a b : List ℕ) → Stands s p (a ++ b) → Stands s (p + length a) b
  stands_behind p a b h =
      (h.0, sym (drop-drop (length a) p s) ∙ ap (drop (length a)) (h.1 ∙ append_assoc a b h.0) ∙ drop-append_seam a (b ++ h.0))

  pub stands_take : (p n : ℕ) (t : List ℕ) → Stands s p t → Stands s p (take n t)
  stands_take p n t h = stands_front p (take n t) (drop n t) (rw (take-append-drop n t) h)

  pub stands_drop : (p n : ℕ) (t : List ℕ) → n ≤ length t → Stands s p t → Stands s (p + n) (drop n t)
  stands_drop p n t l h = rw (length-take-le n t l) at (stands_behind p (take n t) (drop n t) (rw (take-append-drop n t) h))

  -- so the bytes at the place are those that stand there
  pub text_at_lem : (p n : ℕ) (t : List ℕ) → length t ≡ n → Held s p t → TextAt s p n
  unfolding part
  text_at_lem p n t l h = rw (← l, h.0.1, take-append_seam t h.0.0) h.1

  pub none-at : (p : ℕ) → TextAt s p 0
  unfolding part
  none-at p = utf8_nil

  -- a text cut at a byte below 128: what stands before it, and what stands after it
  pub held_cut : (p : ℕ) (a : List ℕ) (x : ℕ) (b : List ℕ) → x < 0x80 → Held s p (a ++ x ∷ b) → Held s p a × Held s (p + length a + 1) b
  held_cut p a x b l h =
      let u = utf8-cut a x b l h.1 in
      ((stands_front p a (x ∷ b) h.0, u.0), (stands_behind (p + length a) (x ∷ []) b (stands_behind p a (x ∷ b) h.0), utf8-after x b l u.1))

  pub held-cut_at : (p : ℕ) (x : ℕ) (u t : List ℕ) (i : ℕ) → x < 0x80 → i ≤ length t → starts_with (drop i t) (x ∷ u) ≡ true → Held s p t
      → Held s p (take i t) × Held s (p + i + 1) (u ++ drop (i + length (x ∷ u)) t)
  held-cut_at p x u t i l n e h =
      let g = found-split (x ∷ u) t i e in
      let k : Held s p (take i t ++ x ∷ (u ++ drop (i + length (x ∷ u)) t)) = rw (← g) h in
      rw (length-take-le i t n) at (held_cut p (take i t) x (u ++ drop (i + length (x ∷ u)) t) l k)

  -- at the first of a byte
  held-cut-first : (p x : ℕ) (t : List ℕ) → x < 0x80 → first_of (x ∷ []) t < length t → Held s p t
      → Held s p (take (first_of (x ∷ []) t) t) × Held s (p + first_of (x ∷ []) t + 1) (drop (first_of (x ∷ []) t + 1) t)
  held-cut-first p x t l n h = held-cut_at p x [] t (first_of (x ∷ []) t) l (omega arith) (first_found (x ∷ []) t n) h

  -- The fields of a text

  all_held : (n p : ℕ) (t : List ℕ) → length t ≤ n → Held s p t → FieldsHeld s (fields_from p t)
  unfolding comma
  all_held zero p t l h = rw (fields_last p t (omega arith)) (h, tt)
  all_held (suc n) p t l h = go (ltb (first_of (44 ∷ []) t) (length t)) refl (all_held n)
    where
      go : (k : Bool) → ltb (first_of (44 ∷ []) t) (length t) ≡ k → ((q : ℕ) (u : List ℕ) → length u ≤ n → Held s q u → FieldsHeld s (fields_from q u))
          → FieldsHeld s (fields_from p t)
      go true k ih =
          let i = ltb-true (first_of (44 ∷ []) t) (length t) k in
          let c = held-cut-first p 44 t (omega arith) i h in
          rw (fields_comma p t i)
          (c.0, ih (p + first_of (44 ∷ []) t + 1) (drop (first_of (44 ∷ []) t + 1) t) (omega (arith, length-drop (first_of (44 ∷ []) t + 1) t)) c.1)
      go false k ih = rw (fields_last p t (ltb-false (first_of (44 ∷ []) t) (length t) k)) (h, tt)

  pub some-held : (n p : ℕ) (t : List ℕ) → Held s p t → FieldsHeld s (fields_up_to n p t)
  some-held zero p t h = rw (up_to_none p t) (h, tt)
  some-held (suc n) p t h = go (ltb (first_of (44 ∷ []) t) (length t)) refl (some-held n)
    where
      go : (k : Bool) → ltb (first_of (44 ∷ []) t) (length t) ≡ k → ((q : ℕ) (u : List ℕ) → Held s q u → FieldsHeld s (fields_up_to n q u))
          → FieldsHeld s (fields_up_to (suc n) p t)
      go true k ih =
          let i = ltb-true (first_of (44 ∷ []) t) (length t) k in
          let c = held-cut-first p 44 t (omega arith) i h in
          rw (up_to_comma n p t i) (c.0, ih (p + first_of (44 ∷ []) t + 1) (drop (first_of (44 ∷ []) t + 1) t) c.1)
      go false k ih = rw (up_to_last n p t (ltb-false (first_of (44 ∷ []) t) (length t) k)) (h, tt)

  pub after-held : (p : ℕ) (t : List ℕ) → Held s p t → FieldsHeld s (fields_after p t)
  unfolding fields_after
  after-held p t h =
      let i = first_of (58 ∷ []) t in
      by_test (FieldsHeld s) (ltb i (length t))
      (λ k. all_held (length (drop (i + 1) t)) (p + i + 1) (drop (i + 1) t) (omega arith) (held-cut-first p 58 t (omega arith) (ltb-true i (length t) k) h).1)
      (λ k. tt)
