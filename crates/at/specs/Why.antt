-- Which field, and why (request 5 of document 02): what a refusal that carries a field says of the fields that were read. The refusals themselves are
-- those of Event.antt; that each says what stands here is proved (proofs/WhyLaws.antt), and carried to the readers (proofs/WhyPrograms.antt).
use Rattle.std.specs.Prelude.{ℕ, ◌+◌, ◌-◌, ◌≤◌, ◌≡◌, List, [], ◌∷◌, ◌++◌, ◌⊎◌, Bool, true, false, length, take, drop}
use Rattle.text.specs.Bytes.{bytes, starts_with}
use Rattle.text.specs.Number.{some, none, number}
use Rattle.text.specs.Field.{Field, field}
use Rattle.at.specs.Refusal.{Refusal, no, missing, invalid, OrRefused, good, refused}
use Rattle.at.specs.Event.{Kind, bits, text, ip_type, bt_type, protocol, reason, is_protocol, is_reason, Row, name_of, kinds_of, ReadEvent}
use Rattle.at.specs.Line.{Radio, before, body, framed, fields_after}
use Rattle.at.specs.Parts.{row_no}
use Rattle.at.specs.Binary.{fields_up_to, find_marker, Tried, not_binary, tried, prefix}
use Rattle.at.specs.W36.{w36, binary_table}
use Rattle.at.specs.Walk.{Step, one, end, refused_at}
use Rattle.at.specs.declared.FieldError.{FieldError}
use Rattle.at.specs.declared.FieldError.TheVariants.{NoNumber, NotListed}

-- a number of 8 bits that is in a list; and one that is not, or no number, with what the number reader says of exactly these bytes
abbrev pub InList : (ℕ → Bool) → List ℕ → Type 0
InList in_list b = (n : ℕ) × (number 8 b ≡ some n) × (in_list n ≡ true)

abbrev pub NotInList : (ℕ → Bool) → List ℕ → FieldError → Type 0
NotInList in_list b (NoNumber why) = number 8 b ≡ none why
NotInList in_list b NotListed = (n : ℕ) × (number 8 b ≡ some n) × (in_list n ≡ false)

-- a field that is of its kind's form
abbrev pub OfForm : Kind → List ℕ → Type 0
OfForm (bits w) b = (n : ℕ) × (number w b ≡ some n)
OfForm text b = Unit {0}
OfForm ip_type b = (b ≡ bytes "2") ⊎ (b ≡ bytes "3")
OfForm bt_type b = b ≡ bytes "1"
OfForm protocol b = InList is_protocol b
OfForm reason b = InList is_reason b

-- a field that is not, and what is wrong with it. A text is of its form whatever it is, and a type that is not is 13, which carries nothing
abbrev pub WrongForm : Kind → List ℕ → FieldError → Type 0
WrongForm (bits w) b (NoNumber why) = number w b ≡ none why
WrongForm (bits w) b NotListed = ⊥
WrongForm text b why = ⊥
WrongForm ip_type b why = ⊥
WrongForm bt_type b why = ⊥
WrongForm protocol b why = NotInList is_protocol b why
WrongForm reason b why = NotInList is_reason b why

-- a field for each kind, of its form
abbrev pub EachOfForm : List Kind → List Field → Type 0
EachOfForm [] [] = Unit {0}
EachOfForm [] (f ∷ fs) = ⊥
EachOfForm (k ∷ ks) [] = ⊥
EachOfForm (k ∷ ks) (field p b ∷ fs) = OfForm k b × EachOfForm ks fs

-- the field i, where fields are counted from `first`: each field before it is there and of its form, and these fields are left
pub record Reached (first i : ℕ) (ks : List Kind) (fs left : List Field) : Type 0 where
  pub passed : List Kind
  pub kind : Kind
  pub later : List Kind
  pub kinds : ks ≡ passed ++ kind ∷ later
  pub counted : i ≡ first + length passed
  pub taken : List Field
  pub fields : fs ≡ taken ++ left
  pub formed : EachOfForm passed taken

-- the first field of wrong form
pub record Wrong (first i : ℕ) (why : FieldError) (ks : List Kind) (fs : List Field) : Type 0 where
  pub place : ℕ
  pub spelling : List ℕ
  pub rest : List Field
  pub reached : Reached first i ks fs (field place spelling ∷ rest)
  pub wrong : WrongForm reached.kind spelling why

-- what a refusal says of the fields that were read by these kinds: the field that it names is the first that is missing, or of wrong form
abbrev pub Names : ℕ → Refusal → List Kind → List Field → Type 0
Names first (no n) ks fs = Unit {0}
Names first (missing i) ks fs = Reached first i ks fs []
Names first (invalid i why) ks fs = Wrong first i why ks fs

-- whether a refusal carries a field
abbrev pub CarriesField : Refusal → Type 0
CarriesField (no n) = ⊥
CarriesField (missing i) = Unit {0}
CarriesField (invalid i why) = Unit {0}

-- of a line at the place p: its name is that of a row, by whose kinds its fields were read
pub record NamesInLine (radio : Radio) (p : ℕ) (line : List ℕ) (n : Refusal) : Type 0 where
  pub place : ℕ
  pub text : List ℕ
  pub well_framed : framed p line ≡ good (body place text)
  pub row : Row
  pub number : ℕ
  pub listed : row_no radio.rows number ≡ good row
  pub named : before (bytes ":") (radio.kept text) ≡ name_of row
  pub names : Names 1 n (kinds_of row) (fields_after place (radio.kept text))

-- of a binary event at the place p: its fields stand between its prefix and its marker
pub record NamesInBinary (rows : List Row) (p : ℕ) (s : List ℕ) (n : Refusal) : Type 0 where
  pub row : Row
  pub number : ℕ
  pub listed : row_no rows number ≡ good row
  pub prefixed : starts_with s (prefix row) ≡ true
  pub marked : ℕ
  pub has-marker : find_marker (drop (length (prefix row)) s) ≡ good marked
  pub names : Names 1 n (kinds_of row) (fields_up_to (length (kinds_of row) - 1) (p + length (prefix row)) (take marked (drop (length (prefix row)) s)))

-- what the answer to a line says, to a binary event, and a step of the walk at the place p of s
abbrev pub LineNames : Radio → ℕ → List ℕ → OrRefused ReadEvent → Type 0
LineNames radio p line (good e) = Unit {0}
LineNames radio p line (refused n) = CarriesField n → NamesInLine radio p line n

abbrev pub TriedNames : List Row → ℕ → List ℕ → Tried → Type 0
TriedNames rows p s not_binary = Unit {0}
TriedNames rows p s (tried (good e)) = Unit {0}
TriedNames rows p s (tried (refused n)) = CarriesField n → NamesInBinary rows p s n

abbrev pub StepNames : List ℕ → ℕ → Step → Type 0
StepNames s p (one e past) = Unit {0}
StepNames s p end = Unit {0}
StepNames s p (refused_at n q) = CarriesField n → NamesInBinary binary_table p (drop p s) n ⊎ NamesInLine w36 p (drop p s) n

-- no row has more than seven fields
abbrev pub UpToSeven : Refusal → Type 0
UpToSeven (no n) = Unit {0}
UpToSeven (missing i) = (1 ≤ i) × (i ≤ 7)
UpToSeven (invalid i why) = (1 ≤ i) × (i ≤ 7)

abbrev pub FieldUpToSeven : {A : Type 0} → OrRefused A → Type 0
FieldUpToSeven (good a) = Unit {0}
FieldUpToSeven (refused n) = UpToSeven n

abbrev pub TriedUpToSeven : Tried → Type 0
TriedUpToSeven not_binary = Unit {0}
TriedUpToSeven (tried a) = FieldUpToSeven a
