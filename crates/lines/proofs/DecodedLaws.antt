-- What a text in hex spells: at most half as many bytes as it has digits, each below 256; and what `decode` makes of it.
use Prim.Native.Nat.{ℕ, zero, suc, ◌+◌, ◌*◌, ◌≤◌, ◌<◌}
use mathlib.Core.Path.{◌≡◌, refl, sym, ap}
use mathlib.Core.List.{List, [], ◌∷◌, ◌++◌}
use mathlib.Core.Bool.{Bool, true, false, cond, ◌&&◌}
use native.Mathlib.Omega.{arith}
use lib.Dec.{eqb, leb}
use lib.ListN.{length, drop, get_or}
use lib.Seq.{take_at}
use borrow.Author.Tests.{ltb-true, leb-true, leb-false}
use Rattle.text.specs.Bytes.{bytes, same, part}
use Rattle.std.specs.Prelude.{Ok, Err}
use Rattle.lines.specs.declared.hex.HexError.{HexError}
use Rattle.lines.specs.declared.hex.HexError.TheVariants.{NoHex, NoRoom}
use Rattle.lines.specs.Hex.{digit_of, is_digit, Spelt, spells, no_hex, prepend, pairs, some_bytes, bytes_in, answer, after}

-- The bytes that a text spells, of two digits each; none where it is no hex

abbrev pub bytes_of : Spelt → List ℕ
bytes_of (spells s) = s
bytes_of no_hex = []

-- at most half as many as n, and each is below 256
abbrev pub Spells : ℕ → Spelt → Type 0
Spells n r = (2 * length (bytes_of r) ≤ n) × ((i : ℕ) → get_or (bytes_of r) i 0 < 256)

spells-none : (n : ℕ) → Spells n (spells [])
spells-none n = (omega arith, λ i. omega arith)

spells-more : (d n : ℕ) (r : Spelt) → d < 256 → Spells n r → Spells (suc (suc n)) (prepend (d ∷ []) r)
spells-more d n (spells s) h p = (omega (arith, p.0), go)
  where
    go : (i : ℕ) → get_or (d ∷ s) i 0 < 256
    go zero = h
    go (suc i) = p.1 i
spells-more d n no_hex h p = spells-none (suc (suc n))

pairs_spell : (hex : List ℕ) → Spells (length hex) (pairs hex)
unfolding pairs
pairs_spell [] = spells-none 0
pairs_spell (a ∷ []) = go (eqb a 32)
  where
    go : (k : Bool) → Spells 1 (cond k (spells []) no_hex)
    go true = spells-none 1
    go false = spells-none 1
pairs_spell (a ∷ b ∷ s) = go (eqb a 32) (is_digit a) refl (is_digit b) refl (pairs_spell (b ∷ s)) (pairs_spell s)
  where
    go : (k p : Bool) → is_digit a ≡ p → (q : Bool) → is_digit b ≡ q → Spells (suc (length s)) (pairs (b ∷ s)) → Spells (length s) (pairs s)
        → Spells (suc (suc (length s))) (cond k (pairs (b ∷ s)) (cond (p && q) (prepend ((digit_of a * 16 + digit_of b) ∷ []) (pairs s)) no_hex))
    go true p e q f x y = (omega (arith, x.0), x.1)
    go false true e true f x y = spells-more (digit_of a * 16 + digit_of b) (length s) (pairs s) (omega (arith, ltb-true (digit_of a) 16 e, ltb-true (digit_of b) 16 f)) y
    go false true e false f x y = spells-none (suc (suc (length s)))
    go false false e q f x y = spells-none (suc (suc (length s)))

pub bytes-spelt : (hex : List ℕ) → Spells (length hex) (bytes_in hex)
unfolding bytes_in
bytes-spelt hex = go (same hex (bytes "-")) (pairs hex) (pairs_spell hex)
  where
    go : (k : Bool) (r : Spelt) → Spells (length hex) r → Spells (length hex) (cond k (spells []) (some_bytes r))
    go true r p = spells-none (length hex)
    go false (spells []) p = p
    go false (spells (b ∷ s)) p = p
    go false no_hex p = p

-- The cases of an answer, and what is then spelt

module _ (buf exit : List ℕ) (r : Spelt) where
  pub decoded_bytes : (n : ℕ) → Ok n ≡ answer (length buf) r → exit ≡ after buf r → r ≡ spells (part exit 0 n)
  unfolding part
  decoded_bytes n e x = go r e x
    where
      go : (r : Spelt) → Ok n ≡ answer (length buf) r → exit ≡ after buf r → r ≡ spells (part exit 0 n)
      go (spells y) e x = fits (leb (length y) (length buf)) e x
        where
          fits : (k : Bool) → Ok n ≡ cond k (Ok (length y)) (Err NoRoom) → exit ≡ cond k (y ++ drop (length y) buf) buf → spells y ≡ spells (part exit 0 n)
          fits true e x = let l : n ≡ length y = cc in ap spells (sym (rw (x, l) (take_at y (drop (length y) buf) (length y) refl)))
          fits false e x = let z : ◌≡◌ {A = ℕ} 0 1 = cc in absurd (omega arith)
      go no_hex e x = let z : ◌≡◌ {A = ℕ} 0 1 = cc in absurd (omega arith)

pub decoded_fits : (room n : ℕ) (r : Spelt) → Ok n ≡ answer room r → length (bytes_of r) ≤ room
decoded_fits room n (spells y) e = go (leb (length y) room) refl e
  where
    go : (k : Bool) → leb (length y) room ≡ k → Ok n ≡ cond k (Ok (length y)) (Err NoRoom) → length y ≤ room
    go true k e = leb-true (length y) room k
    go false k e = let z : ◌≡◌ {A = ℕ} 0 1 = cc in absurd (omega arith)
decoded_fits room n no_hex e = omega arith

pub decoded_no-hex : (room : ℕ) (r : Spelt) → Err NoHex ≡ answer room r → r ≡ no_hex
decoded_no-hex room (spells y) e = go (leb (length y) room) e
  where
    go : (k : Bool) → Err NoHex ≡ cond k (Ok (length y)) (Err NoRoom) → spells y ≡ no_hex
    go true e = let z : ◌≡◌ {A = ℕ} 0 1 = cc in absurd (omega arith)
    go false e = let z : ◌≡◌ {A = ℕ} 0 1 = cc in absurd (omega arith)
decoded_no-hex room no_hex e = refl

pub decoded_no-room : (room : ℕ) (r : Spelt) → Err NoRoom ≡ answer room r → room < length (bytes_of r)
decoded_no-room room (spells y) e = go (leb (length y) room) refl e
  where
    go : (k : Bool) → leb (length y) room ≡ k → Err NoRoom ≡ cond k (Ok (length y)) (Err NoRoom) → room < length y
    go true k e = let z : ◌≡◌ {A = ℕ} 0 1 = cc in absurd (omega arith)
    go false k e = leb-false (length y) room k
decoded_no-room room no_hex e = let z : ◌≡◌ {A = ℕ} 0 1 = cc in absurd (omega arith)

-- a refusal where there is room says that the text is no hex
pub decoded_none : (room : ℕ) (r : Spelt) (e : HexError) → Err e ≡ answer room r → length (bytes_of r) ≤ room → r ≡ no_hex
decoded_none room r NoHex e h = decoded_no-hex room r e
decoded_none room r NoRoom e h = let n = decoded_no-room room r e in absurd (omega arith)
