-- A dump cut into ranges: from the left, a run of bytes that passes checks 1 to 3 of a frame is kept, else one byte is skipped.
use Rattle.std.specs.Prelude.{ℕ, zero, suc, ◌+◌, ◌-◌, List, [], ◌∷◌, Bool, cond, not, ◌&&◌, eqb, ltb, length, take}
use Rattle.edm.specs.Frame.{delimited, length_field, payload}

-- checks 1, 2 and 3 of the frame layer
unfoldable pub passes : List ℕ → Bool
passes s = delimited s && not (ltb (length s) 6) && eqb (length_field s) (length (payload s) + 2)

-- the run that starts here: the masked length plus 4 bytes, or as many as there are
unfoldable pub run : List ℕ → List ℕ
run s = take (length_field s + 4) s

-- a range, with its bytes
pub data Piece : Type 0 where
  kept skipped : List ℕ → Piece

-- a skipped byte in front: neighbouring skipped bytes are one range
infixr 30 ◌before◌
abbrev pub ◌before◌ : ℕ → List Piece → List Piece
b before [] = skipped (b ∷ []) ∷ []
b before (skipped t ∷ ps) = skipped (b ∷ t) ∷ ps
b before (kept t ∷ ps) = skipped (b ∷ []) ∷ kept t ∷ ps

-- the ranges after the first n bytes, which are in the range before: a run that passes is kept, and the search goes on after it; else one byte
-- is skipped
unfoldable pub cut_after : ℕ → List ℕ → List Piece
cut_after n [] = []
cut_after (suc n) (b ∷ s) = cut_after n s
cut_after zero (b ∷ s) = cond (passes (run (b ∷ s))) (kept (run (b ∷ s)) ∷ cut_after (length (run (b ∷ s)) - 1) s) (b before cut_after 0 s)

abbrev pub cut : List ℕ → List Piece
cut s = cut_after 0 s

abbrev pub text : Piece → List ℕ
text (kept t) = t
text (skipped t) = t

-- the frames that are kept, in order
abbrev pub frames : List Piece → List (List ℕ)
frames [] = []
frames (kept t ∷ ps) = t ∷ frames ps
frames (skipped t ∷ ps) = frames ps

-- kept is 1, skipped is 0
abbrev pub mark : Piece → ℕ
mark (kept t) = 1
mark (skipped t) = 0

-- three numbers a range, the first of which starts at this place: start, length, kept or skipped
unfoldable pub rows : ℕ → List Piece → List ℕ
rows at [] = []
rows at (p ∷ ps) = at ∷ length (text p) ∷ mark p ∷ rows (at + length (text p)) ps
