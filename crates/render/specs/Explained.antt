-- The line of an explanation: `refused`, the number and the name of the refusal, the byte and the check; or `accepted` and each field with its first
-- byte and its number of bytes.
use Rattle.std.specs.Prelude.{ℕ, List, [], ◌∷◌, ◌++◌, Result, Ok, Err}
use Rattle.text.specs.Bytes.{bytes}
use Rattle.text.specs.Decimal.{decimal}
use Rattle.at.specs.Refusal.{number_of, OrRefused}
use Rattle.at.specs.Event.{ReadEvent}
use Rattle.at.specs.Binary as reader
use Rattle.checks.specs.declared.Accepted.{Accepted}
use Rattle.checks.specs.declared.CheckName.{CheckName}
use Rattle.checks.specs.declared.Refused.{Refused}
use Rattle.checks.specs.Check.{Check, Finding, all_hold, broken, first_broken}
use Rattle.checks.specs.Binary.{Binary, not_binary, binary}
use Rattle.checks.specs.Part.{Part, ◌from◌for◌, left}
use Rattle.checks.specs.Explained.{Explanation, finding_of, fields_of, fields_in, IfBinary, none, some}
use Rattle.render.specs.Words.{name_in}
use Rattle.render.specs.Refusal.{refusals}
use Rattle.render.specs.Walk.{place_line}
use Rattle.render.specs.Label.{check_word, part_word}

abbrev pub part_line : Part → List ℕ
part_line (n from p for l) = bytes " " ++ part_word n ++ bytes "@" ++ decimal p ++ bytes "+" ++ decimal l

unfoldable pub parts_line : List Part → List ℕ
parts_line [] = []
parts_line (p ∷ ps) = part_line p ++ parts_line ps

abbrev pub accepted_line : List Part → List ℕ
accepted_line ps = bytes "accepted" ++ parts_line ps

-- the check c refused with the number n, which the byte b shows
abbrev pub broken_line : CheckName → ℕ → ℕ → List ℕ
broken_line c n b = bytes "refused " ++ decimal n ++ bytes " " ++ name_in refusals n ++ place_line b ++ bytes " " ++ check_word c

-- what the checks of an input find, and the fields that it has where all of them hold
abbrev pub found_line : Finding → List Part → List ℕ
found_line all_hold ps = accepted_line ps
found_line (broken c n b) ps = broken_line c (number_of n) b

abbrev pub explained_line : {A : Type 0} → Explanation A → List ℕ
explained_line x = found_line (finding_of x) (fields_of x)

-- the same of an explained answer itself, by the numbers of its refusals: what was read makes no difference (`explained_by_lem`)
abbrev pub explained_by : {A E : Type 0} → (E → ℕ) → List ℕ → Result (Accepted A) (Refused E) → List ℕ
explained_by number src (Ok a) = accepted_line (left src a.fields)
explained_by number src (Err r) = broken_line r.check (number r.error) r.byte

-- bytes that are no binary event are answered as by their reader
abbrev pub binary_line : IfBinary → List ℕ
binary_line none = bytes "notbinary"
binary_line (some x) = explained_line x

-- the line that explains the answer of a reader to an input that has these checks; the fields are those of the answer
abbrev pub explains_line : {A : Type 0} → List Check → OrRefused A → (A → List Part) → List ℕ
explains_line checks answer parts = found_line (first_broken checks) (fields_in parts answer)

abbrev pub fields_tried : (ReadEvent → List Part) → reader.Tried → List Part
fields_tried parts reader.not_binary = []
fields_tried parts (reader.tried a) = fields_in parts a

abbrev pub explains_binary_line : Binary → reader.Tried → (ReadEvent → List Part) → List ℕ
explains_binary_line not_binary t parts = bytes "notbinary"
explains_binary_line (binary checks) t parts = found_line (first_broken checks) (fields_tried parts t)
