-- Laws of bytes in hex: spaces are passed over, the two digits of a byte, and the bytes counted and put.
use Rattle.std.proofs.Common.{ℕ, suc, ◌+◌, ◌*◌, ◌-◌, ◌≤◌, ◌<◌, ◌≡◌, refl, sym, ap, ◌∙◌, List, [], ◌∷◌, ◌++◌, Bool, true, false, cond, not, ◌&&◌, ◌==◌, nat_lt, Some, None, Ok, Err, arith, length, take, drop, get_or, set, length-append, length-drop}
use mathlib.Core.List.{append-nil, append_assoc}
use native.Mathlib.Numerals.{add-one}
use lib.ListN.{drop_of_length-le, take-append-drop}
use lib.Seq.{take-suc-set, length-take-le, drop-drop, take_all, get_or-drop}
use borrow.Author.Tests.{le-leb, lt-leb, ltb-true, ltb-false}
use Rattle.std.specs.List.{position, position_or_len}
use Rattle.std.proofs.lemmas.Bool.{eqb-true}
use Rattle.std.proofs.lemmas.List.Quantifiers.{position-Some}
use Rattle.text.specs.Bytes.{bytes, same}
use Rattle.lines.specs.declared.hex.HexError.{HexError}
use Rattle.lines.specs.declared.hex.HexError.TheVariants.{NoHex, NoRoom}
use Rattle.lines.specs.Steps.{no_space, counted}
use Rattle.lines.specs.Hex.{digit_of, is_digit, Spelt, spells, no_hex, prepend, pairs, some_bytes, bytes_in, answer, after}

-- The spaces before a byte

abbrev spaces : List ℕ → ℕ
spaces s = position_or_len no_space s

space-first : (s : List ℕ) → pairs (32 ∷ s) ≡ pairs s
unfolding pairs
space-first [] = refl
space-first (c ∷ s) = refl

past_spaces : (s : List ℕ) → pairs s ≡ pairs (drop (spaces s) s)
past_spaces [] = refl
past_spaces (a ∷ s) = go (a == 32) refl (past_spaces s)
  where
    go : (k : Bool) → (a == 32) ≡ k → pairs s ≡ pairs (drop (spaces s) s) → pairs (a ∷ s) ≡ pairs (drop (cond (not (not k)) (1 + spaces s) 0) (a ∷ s))
    go true e h = let z : 1 + spaces s ≡ suc (spaces s) = omega arith in rw (z, eqb-true a 32 e) (space-first s ∙ h)
    go false e h = refl

pub spaces_alone : (s : List ℕ) → None ≡ position no_space s → spells [] ≡ pairs s
unfolding pairs
spaces_alone s e = go (nat_lt (spaces s) (length s)) refl e
  where
    go : (k : Bool) → nat_lt (spaces s) (length s) ≡ k → None ≡ cond k (Some (spaces s)) None → spells [] ≡ pairs s
    go true h e = let z : ◌≡◌ {A = ℕ} 0 1 = cc in absurd (omega arith)
    go false h e = sym (past_spaces s ∙ rw (drop_of_length-le s {i = spaces s} (ltb-false (spaces s) (length s) h)) refl)

-- the text from the first byte on that is no space, as it is cut
pub spaces-before : (s : List ℕ) (i : ℕ) → Some i ≡ position no_space s
    → (no_space (get_or (take (length s - i) (drop i s)) 0 0) ≡ true) × (0 < length (take (length s - i) (drop i s))) × (pairs (take (length s - i) (drop i s)) ≡ pairs s)
spaces-before s i e =
    let d = length-drop i s in
    let f = position-Some no_space s i 0 (sym e) in
    let k : take (length s - i) (drop i s) ≡ drop i s = take_all (length s - i) (drop i s) (omega (arith, d)) in
    let z : i + 0 ≡ i = omega arith in
    rw k (ap no_space (get_or-drop i s 0 0) ∙ ap (λ (j : ℕ). no_space (get_or s j 0)) z ∙ f.1, omega (arith, d, f.0), ap (λ (j : ℕ). pairs (drop j s)) (go (nat_lt (spaces s) (length s)) e) ∙ sym (past_spaces s))
  where
    go : (k : Bool) → Some i ≡ cond k (Some (spaces s)) None → i ≡ spaces s
    go true e = cc
    go false e = let z : ◌≡◌ {A = ℕ} 0 1 = cc in absurd (omega arith)

-- The first two bytes of a text, of which the first is no space

module _ (t : List ℕ) (n : no_space (get_or t 0 0) ≡ true) where
  pub pairs_single : 0 < length t → length t < 2 → no_hex ≡ pairs t
  unfolding pairs
  pairs_single = go t n
    where
      go : (t : List ℕ) → no_space (get_or t 0 0) ≡ true → 0 < length t → length t < 2 → no_hex ≡ pairs t
      go [] n h l = absurd (omega arith)
      go (a ∷ []) n h l = one (a == 32) n
        where
          one : (k : Bool) → not k ≡ true → no_hex ≡ cond k (spells []) no_hex
          one true n = let z : ◌≡◌ {A = ℕ} 0 1 = cc in absurd (omega arith)
          one false n = refl
      go (a ∷ b ∷ s) n h l = absurd (omega arith)

  -- what two bytes or more spell, by whether the first two are digits
  pub pairs_two : 2 ≤ length t
      → cond (is_digit (get_or t 0 0)) (cond (is_digit (get_or t 1 0)) (prepend ((digit_of (get_or t 0 0) * 16 + digit_of (get_or t 1 0)) ∷ []) (pairs (take (length t - 2) (drop 2 t)))) no_hex) no_hex ≡ pairs t
  unfolding pairs
  pairs_two = go t n
    where
      go : (t : List ℕ) → no_space (get_or t 0 0) ≡ true → 2 ≤ length t
          → cond (is_digit (get_or t 0 0)) (cond (is_digit (get_or t 1 0)) (prepend ((digit_of (get_or t 0 0) * 16 + digit_of (get_or t 1 0)) ∷ []) (pairs (take (length t - 2) (drop 2 t)))) no_hex) no_hex ≡ pairs t
      go [] n h = absurd (omega arith)
      go (a ∷ []) n h = absurd (omega arith)
      go (a ∷ b ∷ s) n h = rw (take_all (suc (suc (length s)) - 2) s (omega arith)) (two (a == 32) n (is_digit a))
        where
          two : (k : Bool) → not k ≡ true → (p : Bool)
              → cond p (cond (is_digit b) (prepend ((digit_of a * 16 + digit_of b) ∷ []) (pairs s)) no_hex) no_hex
              ≡ cond k (pairs (b ∷ s)) (cond (p && is_digit b) (prepend ((digit_of a * 16 + digit_of b) ∷ []) (pairs s)) no_hex)
          two true n p = let z : ◌≡◌ {A = ℕ} 0 1 = cc in absurd (omega arith)
          two false n true = refl
          two false n false = refl

-- a byte that is taken for a digit is one, and one that is refused is none
pub digit-taken : (b d : ℕ) → Ok d ≡ cond (is_digit b) (Ok (digit_of b)) (Err NoHex) → (is_digit b ≡ true) × (d ≡ digit_of b) × (d < 16)
digit-taken b d e = go (is_digit b) refl e
  where
    go : (k : Bool) → is_digit b ≡ k → Ok d ≡ cond k (Ok (digit_of b)) (Err NoHex) → (is_digit b ≡ true) × (d ≡ digit_of b) × (d < 16)
    go true h e = let l : d ≡ digit_of b = cc in (h, l, omega (arith, ltb-true (digit_of b) 16 h))
    go false h e = let z : ◌≡◌ {A = ℕ} 0 1 = cc in absurd (omega arith)

pub digit-refused : (b : ℕ) (x : HexError) → Err x ≡ cond (is_digit b) (Ok (digit_of b)) (Err NoHex) → (is_digit b ≡ false) × (x ≡ NoHex)
digit-refused b x e = go (is_digit b) refl e
  where
    go : (k : Bool) → is_digit b ≡ k → Err x ≡ cond k (Ok (digit_of b)) (Err NoHex) → (is_digit b ≡ false) × (x ≡ NoHex)
    go true h e = let z : ◌≡◌ {A = ℕ} 0 1 = cc in absurd (omega arith)
    go false h e = (h, cc)

-- Bytes before what is spelt

pub prepend-none : (r : Spelt) → r ≡ prepend [] r
prepend-none (spells s) = refl
prepend-none no_hex = refl

pub prepend_all : (x : List ℕ) → prepend x (spells []) ≡ spells x
prepend_all x = ap spells (append-nil x)

prepend_twice : (x y : List ℕ) (r : Spelt) → prepend x (prepend y r) ≡ prepend (x ++ y) r
prepend_twice x y (spells z) = ap spells (sym (append_assoc x y z))
prepend_twice x y no_hex = refl

-- one byte more at the start of a buffer
pub prepend-put : (b : List ℕ) (n x : ℕ) (r : Spelt) → n < length b → prepend (take n b) (prepend (x ∷ []) r) ≡ prepend (take (n + 1) (set b n x)) r
prepend-put b n x r h = prepend_twice (take n b) (x ∷ []) r ∙ rw (add-one n, take-suc-set b n x h)

-- The bytes that a text spells, counted

pub counted_none : (n : ℕ) → counted n (spells []) ≡ Ok n
counted_none n = ap Ok (let z : n + 0 ≡ n = omega arith in z)

pub counted-more : (n v : ℕ) (r : Spelt) → counted n (prepend (v ∷ []) r) ≡ counted (n + 1) r
counted-more n v (spells x) = ap Ok (let z : n + suc (length x) ≡ n + 1 + length x = omega arith in z)
counted-more n v no_hex = refl

pub counted-no_hex : (e : HexError) (r : Spelt) → Err e ≡ counted 0 r → (r ≡ no_hex) × (e ≡ NoHex)
counted-no_hex e (spells x) q = let z : ◌≡◌ {A = ℕ} 0 1 = cc in absurd (omega arith)
counted-no_hex e no_hex q = (refl, cc)

pub counted-bytes : (n : ℕ) (r : Spelt) → Ok n ≡ counted 0 r → (x : List ℕ) × (r ≡ spells x) × (length x ≡ n)
counted-bytes n (spells x) e = (x, refl, let z : n ≡ 0 + length x = cc in omega (arith, z))
counted-bytes n no_hex e = let z : ◌≡◌ {A = ℕ} 0 1 = cc in absurd (omega arith)

pub some_bytes_lem : (n : ℕ) (x : List ℕ) → length x ≡ n → (n ≡ 0 → ⊥) → some_bytes (spells x) ≡ spells x
some_bytes_lem n [] h k = absurd (k (sym h))
some_bytes_lem n (b ∷ x) h k = refl

pub no_bytes : (n : ℕ) (x : List ℕ) → length x ≡ n → n ≡ 0 → some_bytes (spells x) ≡ no_hex
no_bytes n [] h k = refl
no_bytes n (b ∷ x) h k = absurd (omega arith)

-- The bytes that were put at the start of a buffer

pub dropped_more : (n : ℕ) (b c : List ℕ) → drop n b ≡ drop n c → drop (n + 1) b ≡ drop (n + 1) c
dropped_more n b c e = sym (drop-drop 1 n b) ∙ ap (drop 1) e ∙ drop-drop 1 n c

pub no-hex : {A : Type 0} (x : List ℕ) → no_hex ≡ spells x → A
no-hex x e = let z : ◌≡◌ {A = ℕ} 0 1 = cc in absurd (omega arith)

module _ (b c : List ℕ) (n : ℕ) (h : n ≤ length c) (e : drop n c ≡ drop n b) (x : List ℕ) where
  pub filled : spells (take n c) ≡ spells x → c ≡ x ++ drop (length x) b
  filled q =
      let p : take n c ≡ x = cc in
      let l : n ≡ length x = sym (length-take-le n c h) ∙ ap length p in
      sym (take-append-drop n c) ∙ rw (p, e, l)

  -- where the buffer is full, nothing more is spelt
  pub filled-up : (r : Spelt) → length c ≤ n → length x ≤ length c → prepend (take n c) r ≡ spells x → c ≡ x ++ drop (length x) b
  filled-up (spells []) k l q = filled (sym (prepend_all (take n c)) ∙ q)
  filled-up (spells (y ∷ z)) k l q =
      let p : take n c ++ (y ∷ z) ≡ x = cc in
      let a = length-append (take n c) (y ∷ z) in
      let m = length-take-le n c h in
      let j = ap length p in
      absurd (omega (arith, a, m, j))
  filled-up no_hex k l q = let z : ◌≡◌ {A = ℕ} 0 1 = cc in absurd (omega arith)

-- What is put where there is room for it

module _ (room : ℕ) (x : List ℕ) where
  pub answer-room : length x ≤ room → answer room (spells x) ≡ Ok (length x)
  answer-room h = rw (le-leb (length x) room h)

  pub answer_full : room < length x → answer room (spells x) ≡ Err NoRoom
  answer_full h = rw (lt-leb (length x) room h)

module _ (b x : List ℕ) where
  pub after-room : length x ≤ length b → after b (spells x) ≡ x ++ drop (length x) b
  after-room h = rw (le-leb (length x) (length b) h)

  pub after_full : length b < length x → after b (spells x) ≡ b
  after_full h = rw (lt-leb (length x) (length b) h)

-- A dash, and hex

module _ (s : List ℕ) {t : Bool} (e : t ≡ same s (bytes "-")) where
  pub dash : t ≡ true → bytes_in s ≡ spells []
  unfolding bytes_in
  dash h = rw (← e, h)

  pub no_dash : t ≡ false → bytes_in s ≡ some_bytes (pairs s)
  unfolding bytes_in
  no_dash h = rw (← e, h)
