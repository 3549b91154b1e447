-- The ranges of a dump and their rows, by number: what range i holds, where it starts, and what comes after it. Assumes nothing.
use Prim.Native.Nat.{ℕ, zero, suc, ◌+◌, ◌*◌, ◌≤◌, ◌<◌}
use mathlib.Core.Path.{◌≡◌, refl, sym, ap, ◌∙◌}
use mathlib.Core.List.{List, [], ◌∷◌, ◌++◌}
use mathlib.Core.Bool.{Bool, true, false, false≢true}
use native.Mathlib.Omega.{arith}
use native.Mathlib.Nat.{add-zero, zero-add}
use lib.Dec.{eqb}
use lib.ListN.{length, take, drop, length-append}
use lib.Seq.{drop-drop, length-take-le}
use Rattle.text.specs.Bytes.{part}
use Rattle.scan.specs.Cut.{passes, run, Piece, kept, skipped, cut, text, frames, mark, rows}
use Rattle.scan.specs.Step.{skipped_length}
use Rattle.scan.specs.Listed.{listed_at}
use Rattle.scan.specs.declared.listed.Listed.{Listed}
use Rattle.scan.proofs.RunLaws.{by_cases, passed}
use Rattle.scan.proofs.Ranges.{joined, run-taken, covers}
use Rattle.scan.proofs.CutLaws.{cut-nothing, cut-kept, cut-skips, first-moves, skips-within, skips-none, skips-one}

-- range i; past the end an empty one that is skipped
abbrev pub piece_at : List Piece → ℕ → Piece
piece_at [] i = skipped []
piece_at (p ∷ ps) zero = p
piece_at (p ∷ ps) (suc i) = piece_at ps i

-- how many bytes the ranges before it take up
abbrev pub start_of : List Piece → ℕ → ℕ
start_of [] i = 0
start_of (p ∷ ps) zero = 0
start_of (p ∷ ps) (suc i) = length (text p) + start_of ps i

next_row : (at : ℕ) (p : Piece) (ps : List Piece) (more : List ℕ) (i : ℕ) → listed_at (rows at (p ∷ ps) ++ more) (suc i) ≡ listed_at (rows (at + length (text p)) ps ++ more) i
unfolding rows
next_row at p ps more i =
    let a : suc i * 3 ≡ suc (suc (suc (i * 3))) = omega arith in
    let b : suc (suc (suc (i * 3))) + 1 ≡ suc (suc (suc (i * 3 + 1))) = omega arith in
    let c : suc (suc (suc (i * 3))) + 2 ≡ suc (suc (suc (i * 3 + 2))) = omega arith in
    rw (a, b, c)

-- range i, as a row
abbrev pub row_of : List Piece → ℕ → Listed
row_of ps i = record { start = start_of ps i; len = length (text (piece_at ps i)); kept = eqb (mark (piece_at ps i)) 1 }

row_from : (at : ℕ) (ps : List Piece) (more : List ℕ) (i : ℕ) → i < length ps
    → listed_at (rows at ps ++ more) i ≡ record { start = at + start_of ps i; len = length (text (piece_at ps i)); kept = eqb (mark (piece_at ps i)) 1 }
unfolding rows
row_from at [] more i h = absurd (omega arith)
row_from at (p ∷ ps) more zero h = rw (add-zero at)
row_from at (p ∷ ps) more (suc i) h =
    let e : at + length (text p) + start_of ps i ≡ at + (length (text p) + start_of ps i) = omega arith in
    next_row at p ps more i ∙ row_from (at + length (text p)) ps more i (omega arith) ∙ rw e

-- row i of the list is range i, whatever stands after the rows
pub row_at : (ps : List Piece) (more : List ℕ) (i : ℕ) → i < length ps → listed_at (rows 0 ps ++ more) i ≡ row_of ps i
row_at ps more i h = row_from 0 ps more i h ∙ rw (zero-add (start_of ps i))

-- the rule, of the range that a dump begins with
abbrev Leads : Piece → List ℕ → Type 0
Leads (kept t) s = (passes (run s) ≡ true) × (t ≡ run s)
Leads (skipped t) s = (0 < skipped_length s) × (t ≡ take (skipped_length s) s)

module _ (s : List ℕ) (p : Piece) (ps : List Piece) (e : cut s ≡ p ∷ ps) where
  abbrev First : Type 0
  First = Leads p s × (cut (drop (length (text p)) s) ≡ ps)

  is-first : (q : Piece) → Leads q s → cut s ≡ q ∷ cut (drop (length (text q)) s) → First
  is-first q l f =
      let same : q ≡ p = cc in
      let rest : cut (drop (length (text q)) s) ≡ ps = cc in
      (rw same at l, rw same at rest)

  pub first : First
  first = go s refl
    where
      go : (t : List ℕ) → s ≡ t → First
      go [] z =
          let none : cut s ≡ [] = ap cut z ∙ cut-nothing in
          let l = ap length (sym none ∙ e) in
          absurd (omega arith)
      go (b ∷ t) z =
          by_cases (passes (run s))
          (λ k. is-first (kept (run s)) (k, refl) (cut-kept s k))
          (λ k.
          let l : 0 < length s = rw z (omega arith) in
          let m = first-moves s l k in
          let w = length-take-le (skipped_length s) s (skips-within s) in
          is-first (skipped (take (skipped_length s) s)) (m, refl) (rw w (cut-skips s m)))

-- and of range i
range_leads : (i : ℕ) (ps : List Piece) (s : List ℕ) → cut s ≡ ps → i < length ps → Leads (piece_at ps i) (drop (start_of ps i) s)
range_leads i [] s e h = absurd (omega arith)
range_leads zero (p ∷ ps) s e h = (first s p ps e).0
range_leads (suc i) (p ∷ ps) s e h =
    let l = range_leads i ps (drop (length (text p)) s) (first s p ps e).1 (omega arith) in
    rw (← drop-drop (start_of ps i) (length (text p)) s) l

-- a skipped place fails the checks
pub skipped_fails : (s : List ℕ) (j : ℕ) → j < skipped_length s → passes (run (drop j s)) ≡ false
skipped_fails [] j h = let z = skips-within [] in absurd (omega arith)
skipped_fails (b ∷ s) zero h = by_cases (passes (run (b ∷ s))) (λ e. let z = skips-none (b ∷ s) e in absurd (omega arith)) (λ e. e)
skipped_fails (b ∷ s) (suc j) h =
    by_cases (passes (run (b ∷ s)))
    (λ e. let z = skips-none (b ∷ s) e in absurd (omega arith))
    (λ e. let z = skips-one b s e in skipped_fails s j (omega arith))

-- the bytes of a range that is kept, and of one that is skipped
kept-leads : (p : Piece) (s : List ℕ) → Leads p s → eqb (mark p) 1 ≡ true → passes (run s) ≡ true
kept-leads (kept t) s l e = l.0
kept-leads (skipped t) s l e = absurd (false≢true e)

kept_long : (p : Piece) (s : List ℕ) → Leads p s → eqb (mark p) 1 ≡ true → length (run s) ≡ length (text p)
kept_long (kept t) s l e = ap length (sym l.1)
kept_long (skipped t) s l e = absurd (false≢true e)

skipped_long : (p : Piece) (s : List ℕ) → Leads p s → eqb (mark p) 1 ≡ false → length (text p) ≡ skipped_length s
skipped_long (kept t) s l e = absurd (false≢true (sym e))
skipped_long (skipped t) s l e = ap length l.1 ∙ length-take-le (skipped_length s) s (skips-within s)

skips_here : (p : Piece) (s : List ℕ) → Leads p s → eqb (mark p) 1 ≡ false → 0 < skipped_length s
skips_here (kept t) s l e = absurd (false≢true (sym e))
skips_here (skipped t) s l e = l.0

-- the ranges meet, from the first byte to the last
pub starts_none : (ps : List Piece) → start_of ps 0 ≡ 0
starts_none [] = refl
starts_none (p ∷ ps) = refl

pub starts_next : (ps : List Piece) (i : ℕ) → i < length ps → start_of ps (suc i) ≡ start_of ps i + length (text (piece_at ps i))
starts_next [] i h = absurd (omega arith)
starts_next (p ∷ []) zero h = omega arith
starts_next (p ∷ q ∷ ps) zero h = omega arith
starts_next (p ∷ ps) (suc i) h = let e = starts_next ps i (omega arith) in omega arith

pub starts_end : (ps : List Piece) → start_of ps (length ps) ≡ length (joined ps)
starts_end [] = refl
starts_end (p ∷ ps) = let e = starts_end ps in let l = length-append (text p) (joined ps) in omega arith

starts_within : (ps : List Piece) (i : ℕ) → start_of ps i ≤ length (joined ps)
starts_within [] i = omega arith
starts_within (p ∷ ps) zero = omega arith
starts_within (p ∷ ps) (suc i) = let e = starts_within ps i in let l = length-append (text p) (joined ps) in omega arith

-- the bytes of a range stand where it starts
text_stands : (p : Piece) (s : List ℕ) → Leads p s → take (length (text p)) s ≡ text p
text_stands (kept t) s l = rw l.1 (run-taken s l.0)
text_stands (skipped t) s l = rw (l.1, length-take-le (skipped_length s) s (skips-within s))

-- the ranges from one on
pub from_range : (ps : List Piece) (i : ℕ) → i < length ps → drop i ps ≡ piece_at ps i ∷ drop (suc i) ps
from_range [] i h = absurd (omega arith)
from_range (p ∷ ps) zero h = refl
from_range (p ∷ ps) (suc i) h = from_range ps i (omega arith)

-- the frames among them
pub frames-kept : (p : Piece) (ps : List Piece) → eqb (mark p) 1 ≡ true → frames (p ∷ ps) ≡ text p ∷ frames ps
frames-kept (kept t) ps e = refl
frames-kept (skipped t) ps e = absurd (false≢true e)

pub frames_skipped : (p : Piece) (ps : List Piece) → eqb (mark p) 1 ≡ false → frames (p ∷ ps) ≡ frames ps
frames_skipped (kept t) ps e = absurd (false≢true (sym e))
frames_skipped (skipped t) ps e = refl

-- a row that is range k of a dump
module _ (dump : List ℕ) (k : ℕ) (there : k < length (cut dump)) (r : Listed) (is : r ≡ row_of (cut dump) k) where
  abbrev p : Piece
  p = piece_at (cut dump) k

  starts : r.start ≡ start_of (cut dump) k
  starts = ap (λ (x : Listed). x.start) is

  long : r.len ≡ length (text p)
  long = ap (λ (x : Listed). x.len) is

  marked : (t : Bool) → r.kept ≡ t → eqb (mark p) 1 ≡ t
  marked t e = sym (ap (λ (x : Listed). x.kept) is) ∙ e

  leads : Leads p (drop r.start dump)
  leads = rw starts (range_leads k (cut dump) dump refl there)

  pub row-text : part dump r.start r.len ≡ text p
  unfolding part
  row-text = rw long (text_stands p (drop r.start dump) leads)

  -- a run that passes starts at a kept one, and has its length
  pub row-passes : r.kept ≡ true → passes (run (drop r.start dump)) ≡ true
  row-passes e = kept-leads p (drop r.start dump) leads (marked true e)

  pub row-run : r.kept ≡ true → length (run (drop r.start dump)) ≡ r.len
  row-run e = kept_long p (drop r.start dump) leads (marked true e) ∙ sym long

  -- a skipped one ends where the next run that passes starts
  pub row-skips : r.kept ≡ false → r.len ≡ skipped_length (drop r.start dump)
  row-skips e = long ∙ skipped_long p (drop r.start dump) leads (marked false e)

  pub row-filled : 0 < r.len
  row-filled =
      by_cases r.kept
      (λ e. let a = (passed (run (drop r.start dump)) (row-passes e)).long in let b = row-run e in omega arith)
      (λ e. let a = skips_here p (drop r.start dump) leads (marked false e) in let b = row-skips e in omega arith)

  pub row_ends : r.start + r.len ≡ start_of (cut dump) (suc k)
  row_ends = let a = starts_next (cut dump) k there in let b = starts in let c = long in omega arith

  pub row_inside : r.start + r.len ≤ length dump
  row_inside = omega (arith, row_ends, starts_within (cut dump) (suc k), ap length (covers dump))
