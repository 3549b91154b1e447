-- Laws of numbers as bytes, over the byte order and the width: what is written is read, and what is read is written again. Assumes nothing.
use Prim.Native.Nat.{ℕ, zero, suc, ◌+◌, ◌-◌, ◌*◌, ◌/◌, ◌%◌, ◌≤◌, ◌<◌}
use mathlib.Core.Path.{◌≡◌, refl, sym, ap, ◌∙◌}
use mathlib.Core.List.{List, [], ◌∷◌, reverse, reverse_aux, reverse-reverse}
use native.Mathlib.Omega.{arith}
use native.Mathlib.Numerals.{add-one}
use lib.ListN.{length, take, drop, get_or, length-drop, length-reverse}
use lib.Seq.{drop-cons, length-take-le}
use borrow.Rule.Slice.PartMut.{put_mid}
use Rattle.std.specs.Int.{w32, from_le_bytes, from_be_bytes}
use Rattle.text.specs.Bytes.{part}
use Rattle.pcap.specs.Number.{low_first, value, bytes_of, value_of}
use Rattle.pcap.specs.declared.ByteOrder.{ByteOrder}
use Rattle.pcap.specs.declared.ByteOrder.TheVariants.{Little, Big}

-- what the library's methods make of four bytes, of which those that a shorter number leaves are 0
abbrev zeros : List ℕ
zeros = 0 ∷ 0 ∷ 0 ∷ 0 ∷ []

low_padded : (t : List ℕ) → length t ≤ 4 → from_le_bytes w32 (put_mid 0 (length t) zeros t) ≡ value t
unfolding value
low_padded [] h = refl
low_padded (a ∷ []) h = omega arith
low_padded (a ∷ b ∷ []) h = omega arith
low_padded (a ∷ b ∷ c ∷ []) h = omega arith
low_padded (a ∷ b ∷ c ∷ d ∷ []) h = omega arith
low_padded (a ∷ b ∷ c ∷ d ∷ e ∷ t) h = absurd (omega arith)

high_padded : (t : List ℕ) → length t ≤ 4 → from_be_bytes w32 (put_mid (4 - length t) (4 - (4 - length t)) zeros t) ≡ value (reverse t)
unfolding value
high_padded [] h = refl
high_padded (a ∷ []) h = omega arith
high_padded (a ∷ b ∷ []) h = omega arith
high_padded (a ∷ b ∷ c ∷ []) h = omega arith
high_padded (a ∷ b ∷ c ∷ d ∷ []) h = omega arith
high_padded (a ∷ b ∷ c ∷ d ∷ e ∷ t) h = absurd (omega arith)

low_of : (t b : List ℕ) (w : ℕ) → b ≡ t → w ≡ length t → w ≤ 4 → from_le_bytes w32 (put_mid 0 w zeros b) ≡ value t
low_of t b w e l k = rw (e, l) (low_padded t (omega arith))

high_of : (t b : List ℕ) (w : ℕ) → b ≡ t → w ≡ length t → w ≤ 4 → from_be_bytes w32 (put_mid (4 - w) (4 - (4 - w)) zeros b) ≡ value (reverse t)
high_of t b w e l k = rw (e, l) (high_padded t (omega arith))

-- so it is the number of a part whose bytes stand there
module _ (s : List ℕ) (at w : ℕ) (h : at + w ≤ length s) (k : w ≤ 4) (b : List ℕ) (e : b ≡ take (at + w - at) (drop at s)) where
  is_part : (b ≡ part s at w) × (length (part s at w) ≡ w)
  unfolding part
  is_part = let m : at + w - at ≡ w = omega arith in (rw m at e, length-take-le w (drop at s) (omega (arith, length-drop at s)))

  pub low_number : (n : ℕ) → n ≡ from_le_bytes w32 (put_mid 0 w zeros b) → n ≡ value (part s at w)
  low_number n p = p ∙ low_of (part s at w) b w is_part.0 (sym is_part.1) k

  pub high_number : (n : ℕ) → n ≡ from_be_bytes w32 (put_mid (4 - w) (4 - (4 - w)) zeros b) → n ≡ value (reverse (part s at w))
  high_number n p = p ∙ high_of (part s at w) b w is_part.0 (sym is_part.1) k

-- the bytes at a place, one by one
step : (s : List ℕ) (i j : ℕ) → i < length s → j ≡ i + 1 → drop i s ≡ get_or s i 0 ∷ drop j s
step s i j h e = rw (e, add-one) (drop-cons s i 0 h)

four_at : (s : List ℕ) (i : ℕ) → i + 4 ≤ length s → part s i 4 ≡ get_or s i 0 ∷ get_or s (i + 1) 0 ∷ get_or s (i + 2) 0 ∷ get_or s (i + 3) 0 ∷ []
unfolding part
four_at s i h =
    rw (
      step s i (i + 1) (omega arith) refl,
      step s (i + 1) (i + 2) (omega arith) (omega arith),
      step s (i + 2) (i + 3) (omega arith) (omega arith),
      step s (i + 3) (i + 4) (omega arith) (omega arith),
    )

-- a number of 32 bits is read as it was written
pub number_back : (o : ByteOrder) (n : ℕ) → n < 4294967296 → value_of o (bytes_of o 4 n) ≡ n
unfolding value low_first
number_back Little n h = omega arith
number_back Big n h = omega arith

-- bytes as a slice holds them, and the same from the front
abbrev pub Bytes : List ℕ → Type 0
Bytes s = (i : ℕ) → get_or s i 0 < 256

abbrev pub Below : List ℕ → Type 0
Below [] = Unit {0}
Below (b ∷ s) = (b < 256) × Below s

pub all_below_lem : (s : List ℕ) → Bytes s → Below s
all_below_lem [] h = tt
all_below_lem (b ∷ s) h = (h 0, all_below_lem s (λ i. h (suc i)))

below_drop : (n : ℕ) (s : List ℕ) → Below s → Below (drop n s)
below_drop zero s h = h
below_drop (suc n) [] h = tt
below_drop (suc n) (b ∷ s) h = below_drop n s h.1

below_take : (n : ℕ) (s : List ℕ) → Below s → Below (take n s)
below_take zero s h = tt
below_take (suc n) [] h = tt
below_take (suc n) (b ∷ s) h = (h.0, below_take n s h.1)

below_onto : (s t : List ℕ) → Below s → Below t → Below (reverse_aux s t)
below_onto [] t h k = k
below_onto (b ∷ s) t h k = below_onto s (b ∷ t) h.1 (h.0, k)

-- bytes that are read as a number are those that it is written as
low_again : (s : List ℕ) → Below s → low_first (length s) (value s) ≡ s
unfolding low_first value
low_again [] h = refl
low_again (b ∷ s) h =
    let p : (b + value s * 256) % 256 ≡ b = omega (arith, h.0) in
    let q : (b + value s * 256) / 256 ≡ value s = omega (arith, h.0) in
    rw (p, q, low_again s h.1)

number_again : (o : ByteOrder) (s : List ℕ) → Below s → bytes_of o (length s) (value_of o s) ≡ s
number_again Little s h = low_again s h
number_again Big s h = ap (λ (n : ℕ). reverse (low_first n (value (reverse s)))) (sym (length-reverse s)) ∙ ap reverse (low_again (reverse s) (below_onto s [] h tt)) ∙ reverse-reverse s

-- so the bytes of a field are
pub field_again : (o : ByteOrder) (s : List ℕ) → Below s → (i w : ℕ) → i + w ≤ length s → bytes_of o w (value_of o (part s i w)) ≡ part s i w
unfolding part
field_again o s h i w l =
    let d = length-drop i s in
    let n = length-take-le w (drop i s) (omega arith) in
    ap (λ (k : ℕ). bytes_of o k (value_of o (take w (drop i s)))) (sym n) ∙ number_again o (take w (drop i s)) (below_take w (drop i s) (below_drop i s h))

-- four bytes are a number of 32 bits
small : (o : ByteOrder) (a b c d : ℕ) → a < 256 → b < 256 → c < 256 → d < 256 → value_of o (a ∷ b ∷ c ∷ d ∷ []) < 4294967296
unfolding value
small Little a b c d p q r s = omega arith
small Big a b c d p q r s = omega arith

pub number_small : (o : ByteOrder) (s : List ℕ) → Bytes s → (i : ℕ) → i + 4 ≤ length s → value_of o (part s i 4) < 4294967296
number_small o s h i l = rw (four_at s i l) (small o _ _ _ _ (h i) (h (i + 1)) (h (i + 2)) (h (i + 3)))
