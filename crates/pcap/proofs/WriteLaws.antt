-- Laws of what is to be written, and of bytes that are put at the front of a buffer. Assumes nothing.
use mathlib.Core.Path.{◌≡◌, refl, sym, ap, ◌∙◌}
use mathlib.Core.List.{List, [], ◌∷◌, ◌++◌}
use mathlib.Core.Bool.{Bool, true, false, cond, ◌&&◌}
use Prim.Native.Nat.{ℕ, ◌+◌, ◌/◌, ◌%◌, ◌≤◌, ◌<◌}
use native.Mathlib.Omega.{arith}
use native.Mathlib.Nat.{zero-add}
use lib.Dec.{leb}
use lib.ListN.{length, length-append}
use Rattle.std.specs.Int.{w32, to_le_bytes}
use borrow.Author.Tests.{le-leb, lt-leb, leb-true}
use Rattle.text.specs.Put.{wrote, after as put}
use Rattle.text.proofs.PutAppend.{after_append, after_front}
use Rattle.pcap.specs.Number.{low_first}
use Rattle.pcap.specs.Layout.{spelled, header_bytes, record_head, record_bytes}
use Rattle.pcap.specs.Write.{Written, bytes, refused, fitted, record_out, refusal, shown, Writes}
use Rattle.pcap.specs.declared.ByteOrder.TheVariants.{Little}
use Rattle.pcap.specs.declared.CaptureError.{CaptureError}
use Rattle.pcap.specs.declared.CaptureError.TheVariants.{CaptureBufferTooSmall}
use Rattle.std.specs.Prelude.{Option, Some, None, Result, Ok, Err}
use Rattle.std.specs.Option.{ok_or}

-- a refusal leaves the buffer as it was
pub refuses : {w : Written} {r : Result ℕ CaptureError} (b : List ℕ) (n : ℕ) → w ≡ refused n → shown r ≡ refusal n → Writes b w r b
refuses b n p q = record { answers = rw p q; leaves = rw p }

-- bytes that fit, put at the front
pub puts : {w : Written} (b bs e : List ℕ) (n : ℕ) → w ≡ bytes bs → n ≡ length bs → n ≤ length b → e ≡ put b 0 bs → Writes b w (Ok n) e
puts b bs e n p l h q = record { answers = rw (p, l); leaves = rw p (q ∙ after_front b bs (omega arith)) }

-- bytes that are put at the front, or are too many
pub put_or_full : (b bs e : List ℕ) (p : Option ℕ) (r : Result ℕ CaptureError) → p ≡ wrote b 0 bs → e ≡ put b 0 bs → r ≡ ok_or p CaptureBufferTooSmall → Writes b (fitted (length b) bs) r e
unfolding wrote put
put_or_full b bs e p r q x y = go (leb (length bs) (length b)) refl
  where
    go : (k : Bool) → leb (length bs) (length b) ≡ k → Writes b (fitted (length b) bs) r e
    go true h =
        let w : wrote b 0 bs ≡ Some (length bs) = rw (zero-add (length bs), h) in
        let v : r ≡ Ok (length bs) = y ∙ ap (λ a. ok_or a CaptureBufferTooSmall) (q ∙ w) in
        rw v (puts b bs e (length bs) (rw h) refl (leb-true (length bs) (length b) h) x)
    go false h =
        let w : wrote b 0 bs ≡ None = rw (zero-add (length bs), h) in
        let v : r ≡ Err CaptureBufferTooSmall = y ∙ ap (λ a. ok_or a CaptureBufferTooSmall) (q ∙ w) in
        let u : e ≡ b = x ∙ rw (zero-add (length bs), h) in
        rw (v, u) (refuses b 21 (rw h) refl)

-- bytes put just after those
pub put-after : (b xs ys c d : List ℕ) (at : ℕ) → at ≡ length xs → length xs + length ys ≤ length b → c ≡ put b 0 xs → d ≡ put c at ys → d ≡ put b 0 (xs ++ ys)
put-after b xs ys c d at e h p q = q ∙ rw (p, e ∙ sym (zero-add (length xs))) (after_append b 0 xs ys (omega arith))

abbrev pub header_list : List ℕ
header_list = 0xD4 ∷ 0xC3 ∷ 0xB2 ∷ 0xA1 ∷ 2 ∷ 0 ∷ 4 ∷ 0 ∷ 0 ∷ 0 ∷ 0 ∷ 0 ∷ 0 ∷ 0 ∷ 0 ∷ 0 ∷ 3 ∷ 16 ∷ 0 ∷ 0 ∷ 147 ∷ 0 ∷ 0 ∷ 0 ∷ []

pub header_list_lem : header_bytes Little ≡ header_list
unfolding spelled low_first
header_list_lem = refl

-- a record's head as the code has it
abbrev pub head_list : ℕ → ℕ → ℕ → List ℕ
head_list a b n = to_le_bytes w32 a ++ to_le_bytes w32 b ++ to_le_bytes w32 n ++ to_le_bytes w32 n

four_bytes : (n : ℕ) → low_first 4 n ≡ to_le_bytes w32 n
unfolding low_first
four_bytes n =
    let second : n / 256 / 256 % 256 ≡ n / 65536 % 256 = omega arith in
    let third : n / 256 / 256 / 256 % 256 ≡ n / 16777216 % 256 = omega arith in
    rw (third, second)

pub head_list_lem : (a b n : ℕ) → spelled Little (record_head a b n) ≡ head_list a b n
unfolding spelled
head_list_lem a b n = rw (four_bytes a, four_bytes b, four_bytes n)

module _ (room a b : ℕ) (f : List ℕ) where
  size : length (record_bytes Little a b f) ≡ 16 + length f
  size = rw (head_list_lem a b (length f)) (length-append (head_list a b (length f)) f)

  pub record_wrong : (b ≤ 999999 → 4099 < length f) → record_out room a b f ≡ refused 20
  unfolding record_out
  record_wrong h = go (leb b 999999) refl
    where
      go : (l : Bool) → leb b 999999 ≡ l → cond (l && leb (length f) 4099) (fitted room (record_bytes Little a b f)) (refused 20) ≡ refused 20
      go true e = rw (lt-leb (length f) 4099 (h (leb-true b 999999 e)))
      go false e = refl

  module _ (h : b ≤ 999999) (k : length f ≤ 4099) where
    pub record_over : room < 16 + length f → record_out room a b f ≡ refused 21
    unfolding record_out
    record_over m = rw (le-leb b 999999 h, le-leb (length f) 4099 k, size, lt-leb (16 + length f) room m)

    pub record_fits : 16 + length f ≤ room → record_out room a b f ≡ bytes (head_list a b (length f) ++ f)
    unfolding record_out
    record_fits m = rw (le-leb b 999999 h, le-leb (length f) 4099 k, size, le-leb (16 + length f) room m, head_list_lem a b (length f))
