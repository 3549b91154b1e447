-- What each answer of the number readers says of its text, and that it is the one answer that says so: the three reasons, and being a number, exclude
-- each other and leave no text out. One law over the width, and then over the readers' own contracts.
use Prim.Native.Nat.{ℕ, zero, suc, ◌+◌, ◌-◌, ◌*◌, ◌^◌, ◌≤◌, ◌<◌}
use mathlib.Core.Path.{◌≡◌, refl, sym, ap, ◌∙◌}
use mathlib.Core.List.{List, [], ◌∷◌, ◌++◌}
use mathlib.Core.Logic.{◌⊎◌, ⊎_elim, inl, inr}
use mathlib.Core.Bool.{Bool, true, false, cond}
use native.Mathlib.Omega.{arith}
use contract.Lifetimes.{Lfts}
use denote.Triple.Clauses.{AtExit}
use borrow.Fn.Kinds.{Dens, res_t, ended_of}
use lib.Dec.{eqb, ltb}
use lib.ListN.{length, get_or}
use borrow.Author.Tests.{eqb-true, ltb-true, ltb-false, le-ltb}
use Rattle.text.specs.Bytes.{every}
use Rattle.text.specs.Number.{Num, some, none, is_digit, digits_from, under, digits, signed, number, shown}
use Rattle.text.specs.Spelling.{Spells, allowed_at, Says}
use Rattle.text.specs.declared.number.NumberError.TheVariants.{Empty, Byte, Large}
use Rattle.text.specs.declared.number.NumberError.{NumberError}
use Rattle.std.specs.Prelude.{Result}
use Rattle.text.proofs.Readers.{Reader, ps, result, Post, read8, read16, read32, itself}
use Rattle.text.proofs.Every.{every-head, every_tail}
use Rattle.text.proofs.Spelling.{value-digits, spells-under, spells_read}

-- a byte that is no digit, somewhere in a text
abbrev NoDigit : List ℕ → Type 0
NoDigit s = (i : ℕ) × (i < length s) × (is_digit (get_or s i 0) ≡ false)

later : (b : ℕ) (s : List ℕ) → NoDigit s → NoDigit (b ∷ s)
later b s (i, h, e) = (suc i, omega arith, e)

-- digits have a value, or one of them is none
value_or : (v : ℕ) (ds : List ℕ) → ((n : ℕ) × (digits_from v ds ≡ some n)) ⊎ ((digits_from v ds ≡ none Byte) × NoDigit ds)
unfolding digits_from
value_or v [] = inl (v, refl)
value_or v (b ∷ s) = go (is_digit b) refl (value_or (v * 10 + (b - 48)) s)
  where
    go : (t : Bool) → is_digit b ≡ t → ((n : ℕ) × (digits_from (v * 10 + (b - 48)) s ≡ some n)) ⊎ ((digits_from (v * 10 + (b - 48)) s ≡ none Byte) × NoDigit s)
        → ((n : ℕ) × (cond t (digits_from (v * 10 + (b - 48)) s) (none Byte) ≡ some n)) ⊎ ((cond t (digits_from (v * 10 + (b - 48)) s) (none Byte) ≡ none Byte) × NoDigit (b ∷ s))
    go true q r = ⊎_elim (λ p. inl p) (λ p. inr (p.0, later b s p.1)) r
    go false q r = inr (refl, (0, omega arith, q))

-- one or more digits after a sign, by the value that they have
module _ (width : ℕ) (sign ds : List ℕ) (plus : (sign ≡ []) ⊎ (sign ≡ 43 ∷ [])) (h : 0 < length ds) where
  spelt_so : (n : ℕ) → digits_from 0 ds ≡ some n → Spells n (sign ++ ds)
  spelt_so n e = record { sign = sign; ds = ds; plus = plus; some-digit = h; all_digits = value-digits 0 n ds e; value = e; text = refl }

  limited : (n : ℕ) → digits_from 0 ds ≡ some n → Says width (sign ++ ds) (under (2 ^ width) (some n))
  unfolding under
  limited n e = go (ltb n (2 ^ width)) refl
    where
      go : (t : Bool) → ltb n (2 ^ width) ≡ t → Says width (sign ++ ds) (cond t (some n) (none Large))
      go true q = (spelt_so n e, ltb-true n (2 ^ width) q)
      go false q = (n, spelt_so n e, ltb-false n (2 ^ width) q)

  by_value : (NoDigit ds → Says width (sign ++ ds) (none Byte)) → Says width (sign ++ ds) (under (2 ^ width) (digits_from 0 ds))
  unfolding under
  by_value bad = ⊎_elim (λ p. rw p.1 (limited p.0 p.1)) (λ p. rw p.0 (bad p.1)) (value_or 0 ds)

-- a place of the digits, in the whole text
bad_plain : (b : ℕ) (s : List ℕ) → eqb b 43 ≡ false → NoDigit (b ∷ s) → (i : ℕ) × (i < length (b ∷ s)) × (allowed_at (b ∷ s) i ≡ false)
bad_plain b s q (zero, h, e) = (0, h, rw (e, q))
bad_plain b s q (suc i, h, e) = (suc i, h, e)

bad_plus : (s : List ℕ) → NoDigit s → (i : ℕ) × (i < length (43 ∷ s)) × (allowed_at (43 ∷ s) i ≡ false)
bad_plus s (i, h, e) = (suc i, omega arith, e)

after_plus : (width : ℕ) (s : List ℕ) → Says width (43 ∷ s) (digits (2 ^ width) s)
unfolding digits
after_plus width [] = (0, omega arith, refl)
after_plus width (c ∷ s) = by_value width (43 ∷ []) (c ∷ s) (inr refl) (omega arith) (bad_plus (c ∷ s))

-- NOTHING LEFT OUT: the answer to every text says what is so
pub says : (width : ℕ) (s : List ℕ) → Says width s (number width s)
unfolding number signed digits
says width [] = refl
says width (b ∷ s) = go (eqb b 43) refl
  where
    go : (t : Bool) → eqb b 43 ≡ t → Says width (b ∷ s) (cond t (digits (2 ^ width) s) (digits (2 ^ width) (b ∷ s)))
    go true q = rw (eqb-true b 43 q) (after_plus width s)
    go false q = by_value width [] (b ∷ s) (inl refl) (omega arith) (bad_plain b s q)

-- a number that is spelt has allowed bytes only
every-at : (s : List ℕ) (i : ℕ) → every is_digit s ≡ true → i < length s → is_digit (get_or s i 0) ≡ true
every-at [] i e h = absurd (omega arith)
every-at (b ∷ s) zero e h = every-head is_digit b s e
every-at (b ∷ s) (suc i) e h = every-at s i (every_tail is_digit b s e) (omega arith)

allowed_plain : (ds : List ℕ) (i : ℕ) → every is_digit ds ≡ true → i < length ds → allowed_at ds i ≡ true
allowed_plain ds zero e h = rw (every-at ds 0 e h)
allowed_plain ds (suc i) e h = every-at ds (suc i) e h

allowed_plus : (ds : List ℕ) (i : ℕ) → every is_digit ds ≡ true → 0 < length ds → i < length (43 ∷ ds) → allowed_at (43 ∷ ds) i ≡ true
allowed_plus ds zero e k h = every-at ds 0 e k
allowed_plus ds (suc i) e k h = every-at ds i e (omega arith)

pub spells_allowed : (n : ℕ) (s : List ℕ) (i : ℕ) → Spells n s → i < length s → allowed_at s i ≡ true
spells_allowed n s i r h = ⊎_elim (λ p. plain (r.text ∙ rw p)) (λ p. plus (r.text ∙ rw p)) r.plus
  where
    plain : s ≡ r.ds → allowed_at s i ≡ true
    plain e = rw e (allowed_plain r.ds i r.all_digits (rw e at h))

    plus : s ≡ 43 ∷ r.ds → allowed_at s i ≡ true
    plus e = rw e (allowed_plus r.ds i r.all_digits r.some-digit (rw e at h))

over_limit : (limit n : ℕ) → limit ≤ n → under limit (some n) ≡ none Large
unfolding under
over_limit limit n h = rw (le-ltb n limit h)

only_empty : (width : ℕ) → none Empty ≡ number width []
unfolding number signed
only_empty width = refl

-- no text has a byte that is not allowed and a value
not_both : (n : ℕ) (s : List ℕ) → Spells n s → (i : ℕ) × (i < length s) × (allowed_at s i ≡ false) → ⊥
not_both n s r (i, h, e) = let z : true ≡ false = sym (spells_allowed n s i r h) ∙ e in let y : ◌≡◌ {A = ℕ} 0 1 = cc in omega arith

-- NO TWO AT ONCE: what is so of a text is what its answer says
pub says-only : (width : ℕ) (s : List ℕ) (x : Num) → Says width s x → x ≡ number width s
says-only width s (some n) (r, h) = sym (spells_read width n s h r)
says-only width s (none Empty) e = rw e (only_empty width)
says-only width s (none Byte) p = go (number width s) (says width s)
  where
    go : (y : Num) → Says width s y → none Byte ≡ y
    go (some n) q = absurd (not_both n s q.0 p)
    go (none Empty) q = absurd (omega (arith, p.1, ap length q))
    go (none Byte) q = refl
    go (none Large) q = absurd (not_both q.0 s q.1 p)
says-only width s (none Large) (n, r, h) = sym (spells-under width n s r ∙ over_limit (2 ^ width) n h)

-- the same of the reader's own contract, at any width and at the three that there are
pub says_read : (r : Reader) (κs : Lfts 2) (a : Dens κs (ps r)) (e : AtExit (ended_of 2 (ps r) (result r)) κs) (x : (res_t (result r) κs).Denot)
    → Post r κs a x e → Says r.width.bits a.0.now (shown r.width.value x)
says_read r κs a e x p = rw p (says r.width.bits a.0.now)

pub says_8 : (κs : Lfts 2) (a : Dens κs (ps read8)) (e : AtExit (ended_of 2 (ps read8) (result read8)) κs) (x : Result ℕ NumberError)
    → Post read8 κs a x e → Says 8 a.0.now (shown itself x)
says_8 = says_read read8

pub says_16 : (κs : Lfts 2) (a : Dens κs (ps read16)) (e : AtExit (ended_of 2 (ps read16) (result read16)) κs) (x : Result ℕ NumberError)
    → Post read16 κs a x e → Says 16 a.0.now (shown itself x)
says_16 = says_read read16

pub says_32 : (κs : Lfts 2) (a : Dens κs (ps read32)) (e : AtExit (ended_of 2 (ps read32) (result read32)) κs) (x : Result ℕ NumberError)
    → Post read32 κs a x e → Says 32 a.0.now (shown itself x)
says_32 = says_read read32
