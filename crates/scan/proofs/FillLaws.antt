-- Laws of listing the ranges, row by row. Assumes nothing.
use Prim.Native.Nat.{ℕ, ◌+◌, ◌-◌, ◌≤◌}
use mathlib.Core.Path.{◌≡◌, refl, sym, ap, ◌∙◌}
use mathlib.Core.List.{List, [], ◌∷◌, ◌++◌, append_assoc}
use native.Mathlib.Omega.{arith}
use lib.ListN.{length, take, drop, length-append, length-drop, take-append-drop}
use lib.Seq.{drop-drop, length-take-le}
use mir.Val.{bool_byte}
use borrow.Rule.Slice.PartMut.{put_mid}
use Rattle.std.specs.Prelude.{map}
use Rattle.std.proofs.lemmas.List.{length-map}
use Rattle.std.proofs.lemmas.Slice.{take-put_mid, drop-put_mid}
use Rattle.scan.specs.Cut.{Piece, kept, skipped, cut, rows}
use Rattle.scan.specs.Step.{range_of, ranges_of}
use Rattle.scan.specs.declared.run.Range.{Range}
use Rattle.scan.proofs.Ranges.{joined, covers}
use Rattle.scan.proofs.CutLaws.{cut-nothing, cut-length}

-- the code goes over no range of an empty dump
pub none_left : (s : List ℕ) → length s ≡ 0 → ranges_of s ≡ []
none_left [] h = ap (map range_of) cut-nothing
none_left (b ∷ s) h = absurd (omega arith)

pub few_left : (s : List ℕ) → length (ranges_of s) ≤ length s
few_left s = omega (arith, length-map (cut s) range_of, cut-length 0 s)

-- the rows of ranges, the first of which starts at this place, and how many bytes they take up
abbrev pub range_rows : ℕ → List Range → List ℕ
range_rows at [] = []
range_rows at (r ∷ rs) = at ∷ r.len ∷ bool_byte r.kept ∷ range_rows (at + r.len) rs

abbrev pub total : List Range → ℕ
total [] = 0
total (r ∷ rs) = r.len + total rs

pub same_rows : (at : ℕ) (ps : List Piece) → rows at ps ≡ range_rows at (map range_of ps)
unfolding rows
same_rows at [] = refl
same_rows at (kept t ∷ ps) = ap (λ (q : List ℕ). at ∷ length t ∷ 1 ∷ q) (same_rows (at + length t) ps)
same_rows at (skipped t ∷ ps) = ap (λ (q : List ℕ). at ∷ length t ∷ 0 ∷ q) (same_rows (at + length t) ps)

total_joined : (ps : List Piece) → total (map range_of ps) ≡ length (joined ps)
total_joined [] = refl
total_joined (kept t ∷ ps) = let h = total_joined ps in let l = length-append t (joined ps) in omega arith
total_joined (skipped t ∷ ps) = let h = total_joined ps in let l = length-append t (joined ps) in omega arith

pub total_whole : (s : List ℕ) → total (ranges_of s) ≡ length s
total_whole s = total_joined (cut s) ∙ ap length (covers s)

-- the list with i numbers listed, of the ranges up to a place, where these are left
pub record Filling (dump list₀ list : List ℕ) (i at : ℕ) (rs : List Range) : Type 0 where
  pub placed : at + total rs ≡ length dump
  pub left : i + length (range_rows at rs) ≡ length (rows 0 (cut dump))
  pub done : rows 0 (cut dump) ≡ take i list ++ range_rows at rs
  pub same : drop i list ≡ drop i list₀
  pub sized : length list ≡ length list₀

pub filling_start : (dump list : List ℕ) → Filling dump list list 0 0 (ranges_of dump)
filling_start dump list =
    let t = total_whole dump in
    let e = same_rows 0 (cut dump) in
    record { placed = omega arith; left = omega (arith, ap length e); done = e; same = refl; sized = refl }

module _ (dump list₀ list : List ℕ) (i at : ℕ) where
  pub filling_more : (r : Range) (rs : List Range) (row : List ℕ) → Filling dump list₀ list i at (r ∷ rs) → length (rows 0 (cut dump)) ≤ length list₀
      → row ≡ at ∷ r.len ∷ bool_byte r.kept ∷ [] → Filling dump list₀ (put_mid i (i + 3 - i) list row) (i + 3) (at + r.len) rs
  filling_more r rs row f room e =
      let l = ap length e in
      let m = f.left in
      let p = f.placed in
      let z = f.sized in
      let t : take (i + 3) (put_mid i (i + 3 - i) list row) ≡ take i list ++ row = take-put_mid i (i + 3 - i) list row (i + 3) (omega arith) (omega arith) in
      let d : drop (i + 3) (put_mid i (i + 3 - i) list row) ≡ drop (i + 3) list = drop-put_mid i (i + 3 - i) list row (i + 3) (omega arith) (omega arith) (omega arith) in
      let n = length-append (take (i + 3) (put_mid i (i + 3 - i) list row)) (drop (i + 3) (put_mid i (i + 3 - i) list row)) in
      let u = length-append (take i list) row in
      let v = length-take-le i list (omega arith) in
      let x = length-drop (i + 3) list in
      let y = ap length t in
      let w = ap length d in
      let q = ap length (take-append-drop (i + 3) (put_mid i (i + 3 - i) list row)) in
      record {
        placed = omega arith;
        left = omega arith;
        done = f.done ∙ rw (t, e) (sym (append_assoc (take i list) (at ∷ r.len ∷ bool_byte r.kept ∷ []) (range_rows (at + r.len) rs)));
        same = d ∙ sym (drop-drop 3 i list) ∙ ap (drop 3) f.same ∙ drop-drop 3 i list₀;
        sized = omega arith;
      }
