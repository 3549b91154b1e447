-- The walk over the frames that are kept, by the functions' own contracts: a caller's loop over `next_kept`, on the list that `scan` has filled, gives the
-- kept frames of the dump, each once and in order. Assumes nothing.
use Prim.Native.Nat.{ℕ, zero, suc, ◌+◌, ◌-◌, ◌≤◌, ◌<◌}
use mathlib.Core.Path.{◌≡◌, refl, sym, ap, ◌∙◌}
use mathlib.Core.List.{List, [], ◌∷◌}
use mathlib.Core.Bool.{true, false}
use native.Mathlib.Omega.{arith}
use native.Mathlib.Numerals.{add-one}
use contract.Lifetimes.{Lfts}
use denote.Ref.{Bor}
use denote.Triple.Clauses.{AtExit}
use borrow.Fn.Kinds.{ended_of}
use lib.ListN.{length, drop, drop_of_length-le}
use Rattle.text.specs.Bytes.{part}
use Rattle.scan.specs.Cut.{Piece, cut, frames, rows}
use Rattle.scan.specs.Listed.{listed_at, next_kept}
use Rattle.scan.specs.declared.listed.Listed.{Listed}
use Rattle.scan.specs.declared.listed.Kept.{Kept}
use Rattle.std.specs.Prelude.{Option, Some, None}
use Rattle.scan.proofs.RunLaws.{by_cases}
use Rattle.scan.proofs.Rows.{piece_at, row_of, row_at, row-text, from_range, frames-kept, frames_skipped}
use Rattle.scan.proofs.ListedLaws.{kept_past, kept_here, kept-later}
use Rattle.scan.proofs.Programs.{Listing, dump_of, list_of, counted, filled}
use Rattle.scan.proofs.listed.next_kept as next-kept

module _ (c : Listing) where
  -- what `next_kept` may answer from range k on
  pub record Answers (k : ℕ) (x : Option Kept) : Type 0 where
    pub lifetimes : Lfts 1
    pub list : Bor (List ℕ)
    pub lent : list.now ≡ list_of c
    pub exit : AtExit (ended_of 1 next-kept.Kinds.ps next-kept.Kinds.r) lifetimes
    pub allowed : next-kept.Reads.Post lifetimes (list, (c.count, (k, tt))) x exit

  -- the answers of a loop from range k on: nothing comes after the end, and a frame is not the last answer
  abbrev pub Calls : ℕ → List (Option Kept) → Type 0
  Calls k [] = ⊥
  Calls k (Some r ∷ xs) = Answers k (Some r) × Calls r.next xs
  Calls k (None ∷ []) = Answers k None
  Calls k (None ∷ x ∷ xs) = ⊥

  -- the parts of the dump that it gives
  abbrev pub given : List (Option Kept) → List (List ℕ)
  given [] = []
  given (Some r ∷ xs) = part (dump_of c) r.start r.len ∷ given xs
  given (None ∷ xs) = given xs

  abbrev ps : List Piece
  ps = cut (dump_of c)

  abbrev Gives : ℕ → Option Kept → Type 0
  Gives k (Some r) = (frames (drop k ps) ≡ part (dump_of c) r.start r.len ∷ frames (drop r.next ps)) × (r.next ≤ c.count)
  Gives k None = frames (drop k ps) ≡ []

  row : (k : ℕ) → k < length ps → listed_at (list_of c) k ≡ row_of ps k
  row k h = ap (λ (l : List ℕ). listed_at l k) (filled c) ∙ row_at ps (drop (length (rows 0 ps)) c.args.1.0.now) k h

  here : (k : ℕ) → k < length ps → (listed_at (list_of c) k).kept ≡ true → Gives k (next_kept (list_of c) c.count k)
  here k h e =
      let n = counted c in
      let r = row k h in
      let m = sym (ap (λ (x : Listed). x.kept) r) ∙ e in
      let t = row-text (dump_of c) k h (row_of ps k) refl in
      rw (kept_here (list_of c) c.count k (omega arith) e, ap (λ (x : Listed). x.start) r, ap (λ (x : Listed). x.len) r, t, add-one k)
      (ap frames (from_range ps k h) ∙ frames-kept (piece_at ps k) (drop (suc k) ps) m, omega arith)

  later : (k : ℕ) → k < length ps → (listed_at (list_of c) k).kept ≡ false → Gives (suc k) (next_kept (list_of c) c.count (suc k)) → Gives k (next_kept (list_of c) c.count k)
  later k h e g =
      let n = counted c in
      let m = sym (ap (λ (x : Listed). x.kept) (row k h)) ∙ e in
      let f = ap frames (from_range ps k h) ∙ frames_skipped (piece_at ps k) (drop (suc k) ps) m in
      rw (kept-later (list_of c) c.count k (omega arith) e, add-one k) (go (next_kept (list_of c) c.count (suc k)) f g)
    where
      go : (x : Option Kept) → frames (drop k ps) ≡ frames (drop (suc k) ps) → Gives (suc k) x → Gives k x
      go (Some r) f g = (f ∙ g.0, g.1)
      go None f g = f ∙ g

  gives : (left k : ℕ) → k + left ≡ c.count → Gives k (next_kept (list_of c) c.count k)
  gives zero k e =
      let n = counted c in
      rw (kept_past (list_of c) c.count k (omega arith)) (ap frames (drop_of_length-le ps {i = k} (omega arith)))
  gives (suc left) k e =
      let n = counted c in
      let h : k < length ps = omega arith in
      by_cases (listed_at (list_of c) k).kept (here k h) (λ f. later k h f (gives left (suc k) (omega arith)))

  answered : (k : ℕ) → k ≤ c.count → (x : Option Kept) → Answers k x → Gives k x
  answered k h x a =
      let e : next_kept (list_of c) c.count k ≡ x = sym (a.allowed ∙ ap (λ (l : List ℕ). next_kept l c.count k) a.lent) in
      rw e at (gives (c.count - k) k (omega arith))

  calls_from : (xs : List (Option Kept)) (k : ℕ) → k ≤ c.count → Calls k xs → given xs ≡ frames (drop k ps)
  calls_from [] k h a = absurd a
  calls_from (Some r ∷ xs) k h a =
      let g : Gives k (Some r) = answered k h (Some r) a.0 in
      ap (λ (fs : List (List ℕ)). part (dump_of c) r.start r.len ∷ fs) (calls_from xs r.next g.1 a.1) ∙ sym g.0
  calls_from (None ∷ []) k h a = let g : Gives k None = answered k h None a in sym g
  calls_from (None ∷ x ∷ xs) k h a = absurd a

  pub calls_give_the_frames : (xs : List (Option Kept)) → Calls 0 xs → given xs ≡ frames (cut (dump_of c))
  calls_give_the_frames xs a = calls_from xs 0 (omega arith) a
