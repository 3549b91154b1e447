-- A dump of any length, cut window by window. A run has at most 4,099 bytes, so whether one is kept at a place is decided as soon as so many bytes from
-- there on are at hand, or the dump has ended.
use Rattle.std.specs.Prelude.{ℕ, ◌-◌, min, ◌≡◌, List, [], ◌∷◌, ◌++◌, Bool, cond, ltb}
use Rattle.scan.specs.Cut.{Piece, skipped, ◌before◌, cut}
use Rattle.scan.specs.declared.listed.Listed.{Listed}

-- how many places at the front of a window are decided
abbrev pub decided_places : ℕ → Bool → ℕ
decided_places len is_end = cond is_end len (len - 4098)

-- how many bytes at the front of a range are decided, with this many places: those of a kept one all together, by its first; those of a skipped one each
-- by its own place
abbrev pub decided_bytes : Listed → ℕ → ℕ
decided_bytes r places = cond r.kept (cond (ltb r.start places) r.len 0) (min r.len (places - r.start))

-- skipped bytes in front of ranges
abbrev pub skipping : List ℕ → List Piece → List Piece
skipping [] ps = ps
skipping (b ∷ s) ps = b before skipping s ps

-- the ranges of the whole dump are those that were reported and then those of the rest. Bytes that are skipped just before the rest are still to be
-- reported, since their range may go on in it
pub record Reported (whole : List ℕ) (ps : List Piece) (pending rest : List ℕ) : Type 0 where
  pub ranges : cut whole ≡ ps ++ skipping pending (cut rest)

-- what is reported of them once their range has ended
abbrev pub closed : List ℕ → List Piece
closed [] = []
closed (b ∷ s) = skipped (b ∷ s) ∷ []
