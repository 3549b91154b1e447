-- Laws of the line of a dump: the row of a range and then the ranges after it.
use Rattle.std.proofs.Common.{◌≡◌, ℕ, ◌+◌, ◌<◌, ◌≤◌, List, [], ◌∷◌, ◌++◌, length, drop, sym, refl, ap, ◌∙◌, add-zero, add-one, arith, drop_of_length-le}
use Rattle.text.specs.Bytes.{bytes}
use Rattle.scan.specs.Cut.{Piece, cut, text, rows}
use Rattle.scan.specs.Scan.{refusal_no, scanned, after, Scans}
use Rattle.scan.specs.Listed.{listed_at}
use Rattle.scan.specs.declared.ScanError.{ScanError}
use Rattle.std.specs.Prelude.{Ok, Err}
use Rattle.scan.proofs.ScanLaws.{scan_listed, scan_refused_lem}
use Rattle.scan.proofs.Rows.{piece_at, start_of, row_at, from_range, starts_next}
use Rattle.render.specs.Refusal.{refused_line}
use Rattle.render.specs.Range.{range_line, piece_line, more_line, ranges_line, scan_line}

module _ (list : List ℕ) (ps : List Piece) (more : List ℕ) (e : list ≡ rows 0 ps ++ more) where
  row_line : (i : ℕ) → i < length ps → range_line (listed_at list i) ≡ piece_line (start_of ps i) (piece_at ps i)
  row_line i h = ap range_line (ap (λ (l : List ℕ). listed_at l i) e ∙ row_at ps more i h)

  -- the ranges from one on
  pub ranges_on : (i : ℕ) → i < length ps → more_line (start_of ps i) (drop i ps) ≡ bytes " ; " ++ range_line (listed_at list i) ++ more_line (start_of ps (i + 1)) (drop (i + 1) ps)
  unfolding more_line
  ranges_on i h =
      rw (add-one i, row_line i h, starts_next ps i h) (ap (more_line (start_of ps i)) (from_range ps i h))

  pub ranges-done : (i : ℕ) → length ps ≤ i → more_line (start_of ps i) (drop i ps) ≡ []
  unfolding more_line
  ranges-done i h = ap (more_line (start_of ps i)) (drop_of_length-le ps {i = i} h)

-- and all of them
pub ranges-first : (list : List ℕ) (ps : List Piece) (more : List ℕ) → list ≡ rows 0 ps ++ more → 0 < length ps
    → ranges_line ps ≡ range_line (listed_at list 0) ++ more_line (start_of ps 1) (drop 1 ps)
ranges-first list [] more e h = absurd (omega arith)
ranges-first list (p ∷ []) more e h = rw (row_line list (p ∷ []) more e 0 (omega arith), add-zero (length (text p)))
ranges-first list (p ∷ q ∷ ps) more e h = rw (row_line list (p ∷ q ∷ ps) more e 0 (omega arith), add-zero (length (text p)))

pub ranges-none : (ps : List Piece) → length ps ≤ 0 → ranges_line ps ≡ bytes "-"
ranges-none [] h = refl
ranges-none (p ∷ ps) h = absurd (omega arith)

-- a list of 56,175 numbers, and what was answered
module _ (dump list exit : List ℕ) (room : length list ≡ 56175) where
  pub dump_listed : (n : ℕ) → Scans dump list (Ok n) exit
      → (scan_line (scanned dump 56175) ≡ ranges_line (cut dump)) × (n ≡ length (cut dump)) × (exit ≡ rows 0 (cut dump) ++ drop (length (rows 0 (cut dump))) list)
  dump_listed n s =
      let l = scan_listed dump (length list) n s.answers in
      (ap scan_line (ap (scanned dump) (sym room) ∙ l.0), l.1, s.leaves ∙ ap (after list) l.0)

  pub dump_refused : (e : ScanError) → Scans dump list (Err e) exit → scan_line (scanned dump 56175) ≡ refused_line (refusal_no e)
  dump_refused e s = ap scan_line (ap (scanned dump) (sym room) ∙ scan_refused_lem dump (length list) (refusal_no e) s.answers)
