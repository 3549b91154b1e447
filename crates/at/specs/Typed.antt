-- What a reader hands out fits its row: the row is one of its table, each text is a place whose bytes are UTF-8, and every other field is a number
-- that its kind can have.
-- Of a binary event the data follow the fields. That each reader's answer is such is proved (proofs/TypedLaws.antt).
use Rattle.std.specs.Prelude.{ℕ, ◌^◌, ◌≡◌, List, [], ◌∷◌, ◌⊎◌, Bool, true, ◌||◌, eqb, ltb}
use Rattle.text.specs.Bytes.{part}
use Rattle.text.specs.Utf8.{utf8}
use Rattle.at.specs.Refusal.{OrRefused, good}
use Rattle.at.specs.Event.{Kind, bits, text, ip_type, bt_type, protocol, reason, is_protocol, is_reason, Row, kinds_of, Value, num, place, Event, event, ReadEvent, event_to}
use Rattle.at.specs.Parts.{row_no}
use Rattle.at.specs.Binary.{Tried, not_binary, tried}
use Rattle.at.specs.Response.{Response, ok, other, error}
use Rattle.at.specs.Walk.{Step, one, end, refused_at}
use Rattle.at.specs.Inside.{IfGood}
use Rattle.at.specs.W36.{table, binary_table}

-- the n bytes at the place p of a slice are UTF-8; that there are n bytes at it is said by Inside.antt
abbrev pub TextAt : List ℕ → ℕ → ℕ → Type 0
TextAt s p n = utf8 (part s p n) ≡ true

-- a number that a field of a kind can have; of a text it is the place, which may be any
abbrev pub holds : Kind → ℕ → Bool
holds (bits w) n = ltb n (2 ^ w)
holds text n = true
holds ip_type n = eqb n 2 || eqb n 3
holds bt_type n = eqb n 1
holds protocol n = is_protocol n
holds reason n = is_reason n

-- a value of a kind, in a slice s: a text is a place whose bytes are UTF-8, every other kind is a number that it can have
abbrev pub OfKind : List ℕ → Kind → Value → Type 0
OfKind s text (place p n) = TextAt s p n
OfKind s text (num x) = ⊥
OfKind s (bits w) (num x) = holds (bits w) x ≡ true
OfKind s (bits w) (place p n) = ⊥
OfKind s ip_type (num x) = holds ip_type x ≡ true
OfKind s ip_type (place p n) = ⊥
OfKind s bt_type (num x) = holds bt_type x ≡ true
OfKind s bt_type (place p n) = ⊥
OfKind s protocol (num x) = holds protocol x ≡ true
OfKind s protocol (place p n) = ⊥
OfKind s reason (num x) = holds reason x ≡ true
OfKind s reason (place p n) = ⊥

-- the values of a row's fields, and nothing after them
abbrev pub OfKinds : List ℕ → List Kind → List Value → Type 0
OfKinds s [] [] = Unit {0}
OfKinds s [] (v ∷ vs) = ⊥
OfKinds s (k ∷ ks) [] = ⊥
OfKinds s (k ∷ ks) (v ∷ vs) = OfKind s k v × OfKinds s ks vs

-- the values of its fields, then the place of the data, whatever bytes these are, and nothing after it
abbrev pub OfKindsThenData : List ℕ → List Kind → List Value → Type 0
OfKindsThenData s [] [] = ⊥
OfKindsThenData s [] (num x ∷ vs) = ⊥
OfKindsThenData s [] (place p n ∷ []) = Unit {0}
OfKindsThenData s [] (place p n ∷ v ∷ vs) = ⊥
OfKindsThenData s (k ∷ ks) [] = ⊥
OfKindsThenData s (k ∷ ks) (v ∷ vs) = OfKind s k v × OfKindsThenData s ks vs

-- a row of a table
abbrev pub Listed : List Row → Row → Type 0
Listed rows r = (i : ℕ) × (row_no rows i ≡ good r)

-- an event in text, and a binary one, by a table
abbrev pub TextOf : List Row → List ℕ → Event → Type 0
TextOf rows s (event r vs) = Listed rows r × OfKinds s (kinds_of r) vs

abbrev pub BinaryOf : List Row → List ℕ → Event → Type 0
BinaryOf rows s (event r vs) = Listed rows r × OfKindsThenData s (kinds_of r) vs

-- one that was read, wherever it ends
abbrev pub ReadTextOf : List Row → List ℕ → ReadEvent → Type 0
ReadTextOf rows s (event_to e past) = TextOf rows s e

abbrev pub ReadBinaryOf : List Row → List ℕ → ReadEvent → Type 0
ReadBinaryOf rows s (event_to e past) = BinaryOf rows s e

-- the answers; of a refusal nothing is asked
abbrev pub TextAnswer : List Row → List ℕ → OrRefused ReadEvent → Type 0
TextAnswer rows s a = IfGood (ReadTextOf rows s) a

abbrev pub TriedTyped : List Row → List ℕ → Tried → Type 0
TriedTyped rows s not_binary = Unit {0}
TriedTyped rows s (tried a) = IfGood (ReadBinaryOf rows s) a

-- a response: its text is UTF-8
abbrev pub ResponseTyped : List ℕ → Response → Type 0
ResponseTyped s (ok p n) = TextAt s p n
ResponseTyped s (other p n) = TextAt s p n
ResponseTyped s error = Unit {0}

-- a step of the walk: an event in text of W36's table, or one of its binary events
abbrev pub StepTyped : List ℕ → Step → Type 0
StepTyped s (one e past) = TextOf table s e ⊎ BinaryOf binary_table s e
StepTyped s end = Unit {0}
StepTyped s (refused_at n p) = Unit {0}
