-- UTF-8 said without a scan: a run of byte sequences, each of which a row of Table 3-7 has. Nothing else is UTF-8. Empty is.
-- proofs/Utf8Sequences.antt shows that `utf8` and `valid_up_to` of Utf8.antt say the same.
use Rattle.std.specs.Prelude.{ℕ, ◌≤◌, ◌≡◌, List, [], ◌∷◌, ◌++◌, Bool, true, false, ◌&&◌, ◌||◌, length, take}
use Rattle.text.specs.Utf8.{Range, Row, ◌▸◌, table, inside}

-- as many bytes as ranges, and each byte in the range at its place
abbrev pub each_inside : List Range → List ℕ → Bool
each_inside [] [] = true
each_inside [] (b ∷ s) = false
each_inside (r ∷ rs) [] = false
each_inside (r ∷ rs) (b ∷ s) = inside r b && each_inside rs s

-- a row has a sequence: a byte for the first range, one for each range after it, and no byte more
abbrev pub has : Row → List ℕ → Bool
has (r ▸ rs) s = each_inside (r ∷ rs) s

-- some row of the list has the sequence
abbrev pub some_has : List Row → List ℕ → Bool
some_has [] s = false
some_has (row ∷ rows) s = has row s || some_has rows s

-- for each of the sequences, some row of Table 3-7 has it
abbrev pub all_in_table : List (List ℕ) → Bool
all_in_table [] = true
all_in_table (s ∷ ss) = some_has table s && all_in_table ss

-- the sequences, one after the other
abbrev pub joined : List (List ℕ) → List ℕ
joined [] = []
joined (s ∷ ss) = s ++ joined ss

-- a text is a run of sequences of the table: there are such sequences that, joined, are the text
pub record Sequenced (text : List ℕ) : Type 0 where
  pub sequences : List (List ℕ)
  pub in_table : all_in_table sequences ≡ true
  pub whole : joined sequences ≡ text

-- the first n bytes of a text are a run of sequences, and no longer front of the text is
pub record LongestFront (text : List ℕ) (n : ℕ) : Type 0 where
  pub within : n ≤ length text
  pub sequenced : Sequenced (take n text)
  pub longest : (m : ℕ) → m ≤ length text → Sequenced (take m text) → m ≤ n
