-- How long the words of a line are: a number, a name out of a list, a place in hex, and the word of a field that was read.
use Prim.Native.Nat.{ℕ, zero, suc, ◌+◌, ◌*◌, ◌/◌, ◌^◌, ◌≤◌, ◌<◌}
use mathlib.Core.Path.{◌≡◌, refl, ap}
use mathlib.Core.List.{List, [], ◌∷◌, ◌++◌}
use mathlib.Core.Bool.{Bool, true, false, cond, ◌&&◌}
use mathlib.Core.Logic.{⊎_elim}
use native.Mathlib.Omega.{arith}
use native.Mathlib.Nat.{pow-suc}
use lib.Dec.{eqb, leb, ltb}
use lib.ListN.{length, drop, replicate, length-append, length-take}
use borrow.Author.Tests.{leb-true, ltb-true, ltb-false}
use Rattle.text.specs.Bytes.{bytes, same, part}
use Rattle.text.specs.Decimal.{decimal}
use Rattle.text.specs.Number.{Num, some, none, number}
use Rattle.text.proofs.Bools.{and_left, and_right}
use Rattle.text.proofs.DecimalLaws.{decimal-one, decimal-more}
use Rattle.text.proofs.Spelling.{read_exactly}
use Rattle.at.specs.declared.FieldError.TheVariants.{NotListed}
use Rattle.at.specs.Refusal.{no, invalid, good, refused}
use Rattle.at.specs.Event.{Kind, bits, text, ip_type, bt_type, protocol, reason, Value, num, place, listed, is_protocol, is_reason, read_field}
use Rattle.render.specs.Refusal.{refusals, refused_line, frame_refused_line}
use Rattle.render.specs.Words.{pairs_of, hex_of, Name, ◌is◌, name_in, is_ipv6, protocols, reasons, number_word, word_of, spaced_word, values_line}

-- a number below ten to the power k, for k of 1 or more, has at most k digits
pub decimal-within : (k n : ℕ) → n < 10 ^ suc k → length (decimal n) ≤ suc k
decimal-within zero n h = rw (decimal-one n (omega arith)) (omega arith)
decimal-within (suc k) n h = go (ltb n 10) refl (decimal-within k (n / 10))
  where
    go : (t : Bool) → ltb n 10 ≡ t → (n / 10 < 10 ^ suc k → length (decimal (n / 10)) ≤ suc k) → length (decimal n) ≤ suc (suc k)
    go true t ih = rw (decimal-one n (omega (arith, ltb-true n 10 t))) (omega arith)
    go false t ih =
        let p : 10 ^ suc (suc k) ≡ 10 ^ suc k * 10 = pow-suc 10 (suc k) in
        rw (decimal-more n (omega (arith, ltb-false n 10 t)), length-append) (omega (arith, ih (omega arith)))

-- a number is written in no more bytes than it was read from
number_shorter : (w n : ℕ) (b : List ℕ) → number w b ≡ some n → length (decimal n) ≤ length b
number_shorter w n b e =
    let r = read_exactly w n b e in
    let l = length-append (replicate r.0 48) (decimal n) in
    ⊎_elim (λ q. omega (arith, l, ap length q)) (λ q. omega (arith, l, ap length q)) r.1

-- every name of a list is at most k bytes long, and so is the name of any number, which is empty where the list has none
unfoldable pub names_within : ℕ → List Name → Bool
names_within k [] = true
names_within k ((n is name) ∷ names) = leb (length (bytes name)) k && names_within k names

pub name_within : (k : ℕ) (names : List Name) → names_within k names ≡ true → (n : ℕ) → length (name_in names n) ≤ k
unfolding names_within name_in
name_within k [] t n = omega arith
name_within k ((m is name) ∷ names) t n = go (eqb n m) (name_within k names (and_right (leb (length (bytes name)) k) (names_within k names) t) n)
  where
    go : (q : Bool) → length (name_in names n) ≤ k → length (cond q (bytes name) (name_in names n)) ≤ k
    go true h = leb-true (length (bytes name)) k (and_left (leb (length (bytes name)) k) (names_within k names) t)
    go false h = h

-- the line of a refusal, alone and of a frame
pub refused-room : (n : ℕ) → length (refused_line n) ≤ 43
unfolding refused_line refusals names_within
refused-room n = omega (arith, name_within 35 refusals refl n)

pub frame-refused-room : (n : ℕ) → length (frame_refused_line n) ≤ 57
unfolding frame_refused_line refusals names_within
frame-refused-room n = go (ltb 10 n)
  where
    go : (k : Bool) → length (bytes "refused " ++ cond k (bytes "AtPacketError ") [] ++ name_in refusals n) ≤ 57
    go true = omega (arith, name_within 35 refusals refl n)
    go false = omega (arith, name_within 35 refusals refl n)

-- hex: two digits a byte, and a dash for no byte
pairs-length : (s : List ℕ) → length (pairs_of s) ≡ 2 * length s
unfolding pairs_of
pairs-length [] = refl
pairs-length (b ∷ s) = omega (arith, pairs-length s)

pub hex-within : (s : List ℕ) → length (hex_of s) ≤ 2 * length s + 1
hex-within [] = omega arith
hex-within (b ∷ s) = omega (arith, pairs-length (b ∷ s))

place-within : (src : List ℕ) (p n : ℕ) → length (hex_of (part src p n)) ≤ 2 * n + 1
unfolding part
place-within src p n = omega (arith, hex-within (part src p n), length-take n (drop p src))

-- how much longer than 2 * (length + 1) the word of a field of a kind, with the space before it, may be; a number has no more digits than were read
unfoldable pub extra : Kind → ℕ
extra (bits w) = 0
extra text = 0
extra ip_type = 0
extra bt_type = 0
extra protocol = 3
extra reason = 15

listed-number : (i : ℕ) (q : ℕ → Bool) (x : Num) (v : Value) → listed i q x ≡ good v → (n : ℕ) × (x ≡ some n) × (v ≡ num n)
listed-number i q (some n) v e = go (q n) e
  where
    go : (t : Bool) → cond t (good (num n)) (refused (invalid i NotListed)) ≡ good v → (m : ℕ) × (some n ≡ some m) × (v ≡ num m)
    go true e = (n, refl, cc)
    go false e = let z : ◌≡◌ {A = ℕ} 0 1 = cc in absurd (omega arith)
listed-number i q (none why) v e = let z : ◌≡◌ {A = ℕ} 0 1 = cc in absurd (omega arith)

word-within : (i : ℕ) (k : Kind) (p : ℕ) (b src : List ℕ) (v : Value) → read_field i k p b ≡ good v → length (word_of k src v) ≤ 2 * length b + 1 + extra k
unfolding read_field number_word extra names_within is_ipv6 protocols reasons
word-within i (bits w) p b src v e =
    let r = listed-number i (λ n. true) (number w b) v e in
    rw r.2 (omega (arith, number_shorter w r.0 b r.1))
word-within i text p b src v e = let f : v ≡ place p (length b) = cc in rw f (omega (arith, place-within src p (length b)))
word-within i ip_type p b src v e = go (same b (bytes "2")) (same b (bytes "3")) e
  where
    go : (s t : Bool) → cond s (good (num 2)) (cond t (good (num 3)) (refused (no 13))) ≡ good v → length (word_of ip_type src v) ≤ 2 * length b + 1 + 0
    go true t e = let f : v ≡ num 2 = cc in rw f (omega (arith, name_within 1 is_ipv6 refl 2))
    go false true e = let f : v ≡ num 3 = cc in rw f (omega (arith, name_within 1 is_ipv6 refl 3))
    go false false e = let z : ◌≡◌ {A = ℕ} 0 1 = cc in absurd (omega arith)
word-within i bt_type p b src v e = go (same b (bytes "1")) refl e
  where
    go : (t : Bool) → same b (bytes "1") ≡ t → cond t (good (num 1)) (refused (no 13)) ≡ good v → length (word_of bt_type src v) ≤ 2 * length b + 1 + 0
    go true t e = let f : v ≡ num 1 = cc in rw f (omega (arith, decimal-within 0 1 (omega arith)))
    go false t e = let z : ◌≡◌ {A = ℕ} 0 1 = cc in absurd (omega arith)
word-within i protocol p b src v e =
    let r = listed-number i is_protocol (number 8 b) v e in
    rw r.2 (omega (arith, name_within 4 protocols refl r.0))
word-within i reason p b src v e =
    let r = listed-number i is_reason (number 8 b) v e in
    rw r.2 (omega (arith, name_within 16 reasons refl r.0))

-- and with the space before it
pub spaced_within : (i : ℕ) (k : Kind) (p : ℕ) (b src : List ℕ) (v : Value) → read_field i k p b ≡ good v → length (spaced_word k src v) ≤ 2 * suc (length b) + extra k
spaced_within i (bits w) p b src v e = omega (arith, word-within i (bits w) p b src v e)
spaced_within i text p b src v e = omega (arith, word-within i text p b src v e)
spaced_within i ip_type p b src v e = omega (arith, word-within i ip_type p b src v e)
spaced_within i bt_type p b src v e = omega arith
spaced_within i protocol p b src v e = omega (arith, word-within i protocol p b src v e)
spaced_within i reason p b src v e = omega (arith, word-within i reason p b src v e)

-- values that have no kind: none, a place first, a number first
module _ (src : List ℕ) where
  pub data-none : length (values_line [] src []) ≡ 0
  unfolding values_line
  data-none = refl

  pub data-place : (p n : ℕ) (vs : List Value) → length (values_line [] src (place p n ∷ vs)) ≤ 2 * n + 2 + length (values_line [] src vs)
  unfolding values_line
  data-place p n vs = omega (arith, place-within src p n, length-append (hex_of (part src p n)) (values_line [] src vs))

  pub data-number : (k n : ℕ) (vs : List Value) → n < 10 ^ suc k → length (values_line [] src (num n ∷ vs)) ≤ k + 2 + length (values_line [] src vs)
  unfolding values_line number_word
  data-number k n vs h = omega (arith, decimal-within k n h, length-append (decimal n) (values_line [] src vs))
