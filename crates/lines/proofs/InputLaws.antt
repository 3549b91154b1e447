-- Laws of bytes that are moved to the front of their own buffer, one after the other: the first n of those from `start` on stand there. And of a read
-- that goes after the bytes that are kept, and of a line without the CR at its end.
use Prim.Native.Nat.{ℕ, ◌+◌, ◌-◌, ◌≤◌, ◌<◌, min}
use mathlib.Core.Path.{◌≡◌, refl, sym, ap, ◌∙◌}
use mathlib.Core.List.{List, [], ◌∷◌, ◌++◌}
use mathlib.Core.Bool.{Bool, true, false, cond, ◌&&◌}
use native.Mathlib.Omega.{arith}
use Rattle.std.specs.Prelude.{nat_le, nat_eq, Option, Some, None, unwrap_or, MatchOption}
use Rattle.std.specs.Cmp.Lexicographic.{pointwise}
use denote.Ref.{Bor}
use borrow.Author.Tests.{leb-true, leb-false}
use native.Mathlib.Nat.{zero-add, min-le_left, min-le_right, min-eq_left}
use borrow.Rule.Slice.PartMut.{put_mid}
use lib.ListN.{length, take, drop, get_or, set, take-append-drop, length-take, length-drop, length-set}
use native.Mathlib.Numerals.{add-one}
use lib.Seq.{paste, paste-suc, length-paste, drop-paste, get_or-drop, length-take-le, take_all, take_at, take-take}
use Rattle.text.specs.Bytes.{bytes, same, part}
use Rattle.text.specs.Find.{first_from}
use Rattle.text.proofs.FindLaws.{from_at}
use Rattle.lines.specs.Input.{place_or, line_end, without_cr, with_front, ReadAfter}

module _ (b : List ℕ) (start : ℕ) where
  -- the bytes that are not yet overwritten are still there
  later_there : (n k : ℕ) (c : List ℕ) → n ≤ k → n ≤ length b - start → c ≡ paste b 0 (drop start b) n → get_or c k 0 ≡ get_or b k 0
  later_there n k c h l e =
      let d = length-drop start b in
      let z = zero-add n in
      let p : drop n c ≡ drop n b = ap (λ (j : ℕ). drop j c) (sym z) ∙ rw e (drop-paste b 0 (drop start b) n (omega arith) (omega arith)) ∙ ap (λ (j : ℕ). drop j b) z in
      let q : n + (k - n) ≡ k = omega arith in
      ap (λ (j : ℕ). get_or c j 0) (sym q) ∙ sym (get_or-drop n c (k - n) 0) ∙ ap (λ (x : List ℕ). get_or x (k - n) 0) p ∙ get_or-drop n b (k - n) 0 ∙ ap (λ (j : ℕ). get_or b j 0) q

  pub moved_more : (n from : ℕ) (c : List ℕ) → from ≡ start + n → from < length b → c ≡ paste b 0 (drop start b) n
      → (set c n (get_or c from 0) ≡ paste b 0 (drop start b) (n + 1)) × (length (set c n (get_or c from 0)) ≡ length b)
  moved_more n from c f h e =
      let d = length-drop start b in
      let v = later_there n from c (omega arith) (omega arith) e in
      let w : get_or c from 0 ≡ get_or (drop start b) n 0 = v ∙ ap (λ (j : ℕ). get_or b j 0) f ∙ sym (get_or-drop start b n 0) in (
        rw (w, e, add-one n) (ap (λ (j : ℕ). set (paste b 0 (drop start b) n) j (get_or (drop start b) n 0)) (sym (zero-add n)) ∙ paste-suc b 0 (drop start b) n 0 (omega arith) (omega arith)),
        length-set c n (get_or c from 0) ∙ rw e (length-paste b 0 (drop start b) n (omega arith) (omega arith)),
      )

  -- what stands at the front is a part of the buffer, and the rest of it is as it was
  fronted : (n : ℕ) (c p : List ℕ) → p ≡ take n (drop start b) → n ≤ length b - start → c ≡ paste b 0 (drop start b) n → (n ≡ length p) × (c ≡ with_front b p)
  fronted n c p q l e =
      let d = length-drop start b in
      let k : n ≡ length p = rw q (sym (length-take-le n (drop start b) (omega arith))) in
      (k, e ∙ ap (λ (j : ℕ). take n (drop start b) ++ drop j b) (zero-add n ∙ k) ∙ ap (λ (x : List ℕ). x ++ drop (length p) b) (sym q))

  part_cut : (end : ℕ) → part b start (end - start) ≡ take (min end (length b) - start) (drop start b)
  unfolding part
  part_cut end = go (nat_le end (length b)) refl
    where
      go : (k : Bool) → nat_le end (length b) ≡ k → take (end - start) (drop start b) ≡ take (min end (length b) - start) (drop start b)
      go true h = rw (min-eq_left (leb-true end (length b) h))
      go false h =
          let l = leb-false end (length b) h in
          let d = length-drop start b in
          take_all (end - start) (drop start b) (omega (arith, d)) ∙ sym (take_all (min end (length b) - start) (drop start b) (omega (arith, d)))

  module _ (end : ℕ) where
    pub moved : start < min end (length b) → (c : List ℕ) → c ≡ paste b 0 (drop start b) (min end (length b) - start)
        → (min end (length b) - start ≡ length (part b start (end - start))) × (c ≡ with_front b (part b start (end - start)))
    moved h c e = let m = min-le_right end (length b) in fronted (min end (length b) - start) c (part b start (end - start)) (part_cut end) (omega arith) e

    pub moved_none : min end (length b) ≤ start → (0 ≡ length (part b start (end - start))) × (b ≡ with_front b (part b start (end - start)))
    moved_none h = let z : min end (length b) - start ≡ 0 = omega arith in rw (part_cut end, z) (refl, refl)

-- what stands at the front already
pub moved_nowhere : (b : List ℕ) (end : ℕ) → 0 < min end (length b) → (min end (length b) ≡ length (part b 0 (end - 0))) × (b ≡ with_front b (part b 0 (end - 0)))
moved_nowhere b end h =
    let n = min end (length b) - 0 in
    let whole : b ≡ paste b 0 (drop 0 b) n = sym (ap (λ (j : ℕ). take n b ++ drop j b) (zero-add n) ∙ take-append-drop n b) in
    let there = moved b 0 end h b whole in
    let all : min end (length b) ≡ n = omega arith in
    (all ∙ there.0, there.1)

pub after_a_read : (kept k n : ℕ) (b read : List ℕ) → kept ≤ length b → kept + n ≤ length b → ReadAfter b kept (kept + n) (put_mid kept k b read)
after_a_read kept k n b read h l =
    record { stays = take_at (take kept b) (read ++ drop k (drop kept b)) kept (length-take-le kept b h); keeps = omega arith; fits = l }

-- reads one after the other
min_of : (m n : ℕ) → m ≤ n → min m n ≡ m
min_of m n h = min-eq_left h

module _ (b c : List ℕ) (kept count : ℕ) (s : take kept c ≡ take kept b) (h : kept ≤ count) (l : length c ≡ length b) where
  pub still_stays : (n : ℕ) (d : List ℕ) → ReadAfter c count n d → take kept d ≡ take kept b
  still_stays n d r = sym (take-take kept count d h) ∙ ap (take kept) r.stays ∙ take-take kept count c h ∙ s

  pub read_more : (n : ℕ) (d : List ℕ) → count < length c → ReadAfter c count n d → (count ≤ n) × ReadAfter b kept n d
  read_more n d g r =
      let k = r.keeps in
      let f = r.fits in
      let m = min-le_left kept (length b) in
      let e = min_of count (length c) (omega arith) in
      (omega arith, record { stays = still_stays n d r; keeps = omega arith; fits = omega arith })

  pub read_all : length c ≤ count → ReadAfter b kept (length c) c
  read_all g = let m = min-le_right kept (length b) in record { stays = s; keeps = omega arith; fits = omega arith }

-- the place that was found, or the end
pub place_there : (s : List ℕ) (from : ℕ) (o : Option ℕ) → o ≡ first_from (bytes "\n") s from
    → (unwrap_or o (length s) ≡ line_end s from) × (unwrap_or o (length s) < length s → from ≤ unwrap_or o (length s))
place_there s from (Some i) e = (ap (place_or (length s)) e, λ h. omega (arith, (from_at _ _ _ _ (sym e)).0))
place_there s from None e = (ap (place_or (length s)) e, λ h. omega arith)

-- a CR at the end of a line
pointwise-same : (s t : List ℕ) → pointwise nat_eq s t ≡ same s t
unfolding same
pointwise-same [] [] = refl
pointwise-same [] (y ∷ t) = refl
pointwise-same (x ∷ s) [] = refl
pointwise-same (x ∷ s) (y ∷ t) = ap (λ (k : Bool). nat_eq x y && k) (pointwise-same s t)

pub cr_cut : (line : Bor (List ℕ)) (o : Option (Bor (List ℕ)))
    → MatchOption o (pointwise nat_eq (drop (length line.now - 1) line.now) (bytes "\r") ≡ false) (λ x. (pointwise nat_eq (drop (length line.now - 1) line.now) (bytes "\r") ≡ true) × (x.now ≡ take (length line.now - 1) line.now) × (length x.now + 1 ≡ length line.now))
    → (unwrap_or o line).now ≡ without_cr line.now
unfolding without_cr
cr_cut line (Some x) h = rw (sym (pointwise-same (drop (length line.now - 1) line.now) (bytes "\r")) ∙ h.0) h.1
cr_cut line None h = rw (sym (pointwise-same (drop (length line.now - 1) line.now) (bytes "\r")) ∙ h) refl

pub without_shorter : (s : List ℕ) → length (without_cr s) ≤ length s
unfolding without_cr
without_shorter s = go (same (drop (length s - 1) s) (bytes "\r"))
  where
    go : (k : Bool) → length (cond k (take (length s - 1) s) s) ≤ length s
    go true = omega (arith, length-take (length s - 1) s)
    go false = omega arith
