-- Laws of what is read: a header, the end, a refused record, and a record that is found, with its numbers and places. Assumes nothing.
use Prim.Native.Nat.{ℕ, ◌+◌, ◌-◌, ◌≤◌, ◌<◌}
use mathlib.Core.Path.{◌≡◌, refl, sym, ap, ◌∙◌}
use mathlib.Core.List.{List, [], ◌∷◌}
use mathlib.Core.Bool.{Bool, true, false, cond, ◌&&◌}
use native.Mathlib.Omega.{arith}
use lib.Dec.{eqb, leb}
use lib.ListN.{length, take, drop, length-drop}
use lib.Seq.{length-take-le}
use borrow.Author.Tests.{le-leb, lt-leb, leb-true, eq-eqb, ne_eqb, eqb-true}
use Rattle.text.specs.Bytes.{part}
use Rattle.text.proofs.Bools.{and_left, and_right}
use Rattle.text.proofs.BytesLaws.{part-rest}
use Rattle.pcap.specs.Number.{value_of}
use Rattle.pcap.specs.Layout.{header, matches, exactly}
use Rattle.pcap.specs.Read.{head, no_head, read_header, Outcome, found, end, refusal, number, sound, record_in, read_record}
use Rattle.pcap.specs.declared.ByteOrder.{ByteOrder}
use Rattle.pcap.specs.declared.ByteOrder.TheVariants.{Little, Big}

-- where the fixed fields of a header agree, all do exactly if the free ones do
free_decide : (a b c d x y z : Bool) → (a && (b && (c && (d && true)))) ≡ true → (a && (b && (c && (x && (y && (z && (d && true))))))) ≡ (x && (y && (z && true)))
free_decide true true true true x y z e = refl
free_decide true true true false x y z e = absurd cc
free_decide true true false d x y z e = absurd cc
free_decide true false c d x y z e = absurd cc
free_decide false b c d x y z e = absurd cc

pub ours_by_three : (o : ByteOrder) (s : List ℕ) → matches o s 0 header ≡ true → matches o s 0 (exactly header) ≡ matches o s 8 (exactly (take 3 (drop 3 header)))
unfolding matches
ours_by_three o s e =
    let has : ℕ → ℕ → ℕ → Bool = λ at w v. eqb (value_of o (part s at w)) v in
    free_decide (has 0 4 0xA1B2C3D4) (has 4 2 2) (has 6 2 4) (has 20 4 147) (has 8 4 0) (has 12 4 0) (has 16 4 4099) e

-- a header that is read
pub header_read : (s : List ℕ) (o : ByteOrder) (ours : Bool) → read_header s ≡ head o ours → (24 ≤ length s) × (matches o s 0 (exactly header) ≡ ours)
unfolding read_header
header_read s o ours e = go (leb 24 (length s)) (matches Little s 0 header) (matches Big s 0 header) refl e
  where
    go : (l m n : Bool) → leb 24 (length s) ≡ l
        → cond l (cond m (head Little (matches Little s 0 (exactly header))) (cond n (head Big (matches Big s 0 (exactly header))) (no_head 19))) (no_head 19) ≡ head o ours
        → (24 ≤ length s) × (matches o s 0 (exactly header) ≡ ours)
    go true true n k q = let p : Little ≡ o = cc in (leb-true 24 (length s) k, rw (← p) (let r : matches Little s 0 (exactly header) ≡ ours = cc in r))
    go true false true k q = let p : Big ≡ o = cc in (leb-true 24 (length s) k, rw (← p) (let r : matches Big s 0 (exactly header) ≡ ours = cc in r))
    go true false false k q = absurd cc
    go false m n k q = absurd cc

-- the last of five tests fails where the others pass
last_fails : (a b c d e : Bool) → (a ≡ true → b ≡ true → c ≡ true → d ≡ true → e ≡ false) → (a && (b && (c && (d && e)))) ≡ false
last_fails true true true true e h = h refl refl refl refl
last_fails true true true false e h = refl
last_fails true true false d e h = refl
last_fails true false c d e h = refl
last_fails false b c d e h = refl

module _ (o : ByteOrder) (at : ℕ) (t : List ℕ) where
  pub record_end : length t ≡ 0 → record_in o at t ≡ end
  unfolding record_in
  record_end h = rw (eq-eqb (length t) 0 h)

  pub record_bad : (length t ≡ 0 → ⊥)
      → (16 ≤ length t → number o t 4 ≤ 999999 → number o t 8 ≡ number o t 12 → number o t 8 ≤ 4099 → length t < 16 + number o t 8)
      → record_in o at t ≡ refusal 20
  unfolding record_in
  record_bad n h =
      rw (
        ne_eqb (length t) 0 n,
        last_fails (leb 16 (length t)) (leb (number o t 4) 999999) (eqb (number o t 8) (number o t 12)) (leb (number o t 8) 4099) (leb (16 + number o t 8) (length t))
            (λ a b c d. lt-leb (16 + number o t 8) (length t) (h (leb-true _ _ a) (leb-true _ _ b) (eqb-true _ _ c) (leb-true _ _ d))),
      )

  pub record_good : 16 ≤ length t → number o t 4 ≤ 999999 → number o t 8 ≡ number o t 12 → number o t 8 ≤ 4099 → 16 + number o t 8 ≤ length t
      → record_in o at t ≡ found (number o t 0) (number o t 4) (at + 16) (number o t 8) (at + 16 + number o t 8)
  unfolding record_in
  record_good a b c d e =
      rw (
        ne_eqb (length t) 0 (λ z. omega arith),
        le-leb 16 (length t) a,
        le-leb (number o t 4) 999999 b,
        eq-eqb (number o t 8) (number o t 12) c,
        le-leb (number o t 8) 4099 d,
        le-leb (16 + number o t 8) (length t) e,
      )

-- the record at a place of the lent bytes, found in what is left there
pub at_place : (o : ByteOrder) (s t : List ℕ) (at : ℕ) (x : Outcome) → t ≡ part s at (length s) → record_in o at t ≡ x → x ≡ read_record o s at
at_place o s t at x e q = sym q ∙ ap (record_in o at) (e ∙ part-rest s at)

pub left_there : (s : List ℕ) (at : ℕ) {t : List ℕ} → t ≡ part s at (length s) → length t ≡ length s - at
left_there s at e = ap length (e ∙ part-rest s at) ∙ length-drop at s

passed : (a b c d e : Bool) → (a && (b && (c && (d && e)))) ≡ true → (b ≡ true) × (c ≡ true) × (d ≡ true) × (e ≡ true)
passed a b c d e h =
    let h₁ = and_right a (b && (c && (d && e))) h in
    let h₂ = and_right b (c && (d && e)) h₁ in
    let h₃ = and_right c (d && e) h₂ in
    (and_left b (c && (d && e)) h₁, and_left c (d && e) h₂, and_left d e h₃, and_right d e h₃)

-- a record that is found: its numbers, its places and its bounds
pub record Is (o : ByteOrder) (at : ℕ) (t : List ℕ) (a b start len past : ℕ) : Type 0 where
  pub seconds : a ≡ number o t 0
  pub microseconds : b ≡ number o t 4
  pub starts : start ≡ at + 16
  pub kept : len ≡ number o t 8
  pub passes : past ≡ at + 16 + len
  pub twice : number o t 8 ≡ number o t 12
  pub second : b ≤ 999999
  pub short : len ≤ 4099
  pub roomy : 16 + len ≤ length t

pub is_found : (o : ByteOrder) (at : ℕ) (t : List ℕ) (a b start len past : ℕ) → record_in o at t ≡ found a b start len past → Is o at t a b start len past
unfolding record_in
is_found o at t a b start len past e = go (eqb (length t) 0) (sound o t) refl e
  where
    go : (z y : Bool) → sound o t ≡ y
        → cond z end (cond y (found (number o t 0) (number o t 4) (at + 16) (number o t 8) (at + 16 + number o t 8)) (refusal 20)) ≡ found a b start len past
        → Is o at t a b start len past
    go true y k q = absurd cc
    go false false k q = absurd cc
    go false true k q =
        let n : number o t 8 ≡ len = cc in
        let m : number o t 4 ≡ b = cc in
        let f : at + 16 + number o t 8 ≡ past = cc in
        let p = passed (leb 16 (length t)) (leb (number o t 4) 999999) (eqb (number o t 8) (number o t 12)) (leb (number o t 8) 4099) (leb (16 + number o t 8) (length t)) k in
        let p₀ = leb-true (number o t 4) 999999 p.0 in
        let p₂ = leb-true (number o t 8) 4099 p.2 in
        let p₃ = leb-true (16 + number o t 8) (length t) p.3 in
        record {
          seconds = cc;
          microseconds = sym m;
          starts = cc;
          kept = sym n;
          passes = omega arith;
          twice = eqb-true (number o t 8) (number o t 12) p.1;
          second = omega arith;
          short = omega arith;
          roomy = omega arith;
        }

-- it lies within the bytes, the next record begins just past it, and all of its frame is there
pub found-places : (o : ByteOrder) (s : List ℕ) (at a b start len past : ℕ) → read_record o s at ≡ found a b start len past
    → (start ≡ at + 16) × (past ≡ start + len) × (past ≤ length s) × (b ≤ 999999) × (len ≤ 4099) × (length (part s start len) ≡ len)
unfolding part
found-places o s at a b start len past e =
    let r = is_found o at (drop at s) a b start len past e in
    let l = length-drop at s in
    let p = r.passes in
    let q = r.starts in
    let m = r.roomy in
    let k = length-drop start s in
    (q, omega arith, omega arith, r.second, r.short, length-take-le len (drop start s) (omega arith))

-- at the end no byte is left
is_nil : (t : List ℕ) → length t ≡ 0 → t ≡ []
is_nil [] h = refl
is_nil (x ∷ t) h = absurd (omega arith)

pub is-end : (o : ByteOrder) (at : ℕ) (t : List ℕ) → record_in o at t ≡ end → t ≡ []
unfolding record_in
is-end o at t e = go (eqb (length t) 0) (sound o t) refl e
  where
    go : (z y : Bool) → eqb (length t) 0 ≡ z
        → cond z end (cond y (found (number o t 0) (number o t 4) (at + 16) (number o t 8) (at + 16 + number o t 8)) (refusal 20)) ≡ end → t ≡ []
    go true y k q = is_nil t (eqb-true (length t) 0 k)
    go false true k q = absurd cc
    go false false k q = absurd cc
