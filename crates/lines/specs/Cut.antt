-- A text cut at the first place of another, such as a space, or without one.
use Rattle.std.specs.Prelude.{ℕ, ◌+◌, List, cond, ltb, length, take, drop, Option, Some, None}
use denote.Ref.{Bor}
use Rattle.text.specs.Find.{first_of}

pub data Cut : Type 0 where
  cut : List ℕ → List ℕ → Cut
  whole : Cut

-- what stands before and after the mark, which is one byte
unfoldable pub cut_at : List ℕ → List ℕ → Cut
cut_at mark s = cond (ltb (first_of mark s) (length s)) (cut (take (first_of mark s) s) (drop (first_of mark s + 1) s)) whole

-- what an answer says: the two texts that are lent, or none
abbrev pub cut_of : Option (Bor (List ℕ) × Bor (List ℕ)) → Cut
cut_of (Some p) = cut p.0.now p.1.now
cut_of None = whole
