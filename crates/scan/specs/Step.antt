-- What the steps of the scan answer of the dump that is left.
use Rattle.std.specs.Prelude.{ℕ, suc, ◌<◌, ◌≤◌, ◌≡◌, List, [], ◌∷◌, Bool, true, false, cond, length, take, drop, map, Option, Some, None}
use Rattle.scan.specs.Cut.{passes, run, Piece, kept, skipped, cut}
use Rattle.scan.specs.declared.run.Range.{Range}

-- the length of the run that is kept here, if one is
unfoldable pub kept_length : List ℕ → Option ℕ
kept_length s = cond (passes (run s)) (Some (length (run s))) None

-- the number of bytes before the first place where a run is kept
unfoldable pub skipped_length : List ℕ → ℕ
skipped_length [] = 0
skipped_length (b ∷ s) = cond (passes (run (b ∷ s))) 0 (suc (skipped_length s))

abbrev pub piece : Bool → List ℕ → Piece
piece true t = kept t
piece false t = skipped t

-- a range without its bytes
abbrev pub range_of : Piece → Range
range_of (kept t) = record { len = length t; kept = true }
range_of (skipped t) = record { len = length t; kept = false }

abbrev pub ranges_of : List ℕ → List Range
ranges_of s = map range_of (cut s)

-- the first range of what is left, and the ranges after it
pub record Starts (s : List ℕ) (r : Range) : Type 0 where
  pub cuts : cut s ≡ piece r.kept (take r.len s) ∷ cut (drop r.len s)
  pub moves : 0 < r.len
  pub within : r.len ≤ length s
