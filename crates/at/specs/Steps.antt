-- What the private answers of the code say in the definitions' terms. No promise of a public function cites this file.
use Rattle.std.specs.Prelude.{ℕ, suc, ◌%◌, ◌^◌, ◌≡◌, List, [], ◌∷◌, Option, Some, None, Result, Ok, Err, map, Bool, false, cond, eqb, take, drop, get_or}
use Prim.Native.Char.{code}
use Rattle.at.specs.Refusal.{Refusal, no, invalid, OrRefused, good, refused, refusal_of, refusal_no, answered}
use Rattle.text.specs.Field.{Field as Part}
use Rattle.at.specs.Event.{Kind, bits, text, ip_type, bt_type, protocol, reason, Row, kinds_of as row_kinds, Value, num, place, at, Event, event, Read, values, read_row}
use Rattle.at.specs.Line.{Body, body, rows_named, by_type}
use Rattle.at.specs.Table.{letters_of}
use Rattle.at.specs.Parts.{row_no}
use Rattle.at.specs.Binary.{Data, data_at}
use Rattle.at.specs.W26 as w26
use Rattle.at.specs.declared.Text.{Text}
use Rattle.at.specs.declared.AtPacketError.{AtPacketError}
use Rattle.at.specs.declared.binary.Address.{Address}
use Rattle.at.specs.declared.field.Field.{Field}
use Rattle.at.specs.declared.field.Fault.{Fault}
use Rattle.at.specs.declared.field.Fault.TheVariants.{Unsupported, Invalid}
use Rattle.at.specs.declared.line.Body as line
use Rattle.at.specs.declared.w26.PeerConnectedProfile.{PeerConnectedProfile}
use Rattle.at.specs.declared.w26.PeerConnectedProfile.TheVariants as profile
use Rattle.at.specs.declared.w26.WifiLinkDisconnectedReason.{WifiLinkDisconnectedReason}
use Rattle.at.specs.declared.w26.WifiLinkDisconnectedReason.TheVariants as why

abbrev pub profile_of : ℕ → PeerConnectedProfile
profile_of n = cond (eqb n 1) profile.TCP (cond (eqb n 2) profile.UDP profile.MQTT)

abbrev pub reason_of : ℕ → WifiLinkDisconnectedReason
reason_of n =
    cond (eqb n 0) why.Unknown
    (cond (eqb n 1) why.RemoteClose
    (cond (eqb n 2) why.OutOfRange (cond (eqb n 3) why.Roaming (cond (eqb n 4) why.SecurityProblems why.NetworkDisabled))))

abbrev pub text_of : Field → Text
text_of f = record { start = f.value; len = f.len }

abbrev pub no_field : Field
no_field = record { value = 0; len = 0 }

-- the value of a field that was taken for a kind
abbrev pub value_of : Kind → Field → Value
value_of (bits w) f = num (f.value % 2 ^ w)
value_of text f = place f.value f.len
value_of ip_type f = num (w26.type_no (eqb f.value 3))
value_of bt_type f = num 1
value_of protocol f = num (w26.profile_no (profile_of f.value))
value_of reason f = num (w26.reason_no (reason_of f.value))

-- the values of the fields from a place on
unfoldable pub values_of : List Kind → ℕ → List Field → List Value
values_of [] i fs = []
values_of (k ∷ ks) i fs = value_of k (get_or fs i no_field) ∷ values_of ks (suc i) fs

-- what the field i, of a kind, is read as
abbrev pub fault_of : ℕ → Fault → Refusal
fault_of i Unsupported = no 13
fault_of i (Invalid why) = invalid i why

abbrev pub one_of : ℕ → Kind → Result Field Fault → OrRefused Value
one_of i k (Ok f) = good (value_of k f)
one_of i k (Err w) = refused (fault_of i w)

-- what a row's fields are read as: their values, with any fields after them, or what stopped it
abbrev pub without_rest : OrRefused Read → OrRefused Read
without_rest (good (values vs fs)) = good (values vs [])
without_rest (refused n) = refused n

-- whether a row's fields were all taken, or what stopped it
abbrev pub Stop : Type 0
Stop = Result (Unit {0}) AtPacketError

abbrev pub stopped : List Value → Stop → OrRefused Read
stopped vs p = answered (λ all. values vs []) p

-- the fields and the stop of a row whose fields are read so
abbrev pub Took : List Kind → OrRefused Read → List Field → Stop → Type 0
Took ks r fs p = stopped (values_of ks 0 fs) p ≡ without_rest r

-- the framing of a line of s
abbrev pub framed_of : List ℕ → Result line.Body AtPacketError → OrRefused Body
framed_of s r = answered (λ b. body b.start (drop b.start (take b.end s))) r

-- the parts of a binary event
abbrev pub marked_of : Result ℕ AtPacketError → OrRefused ℕ
marked_of r = answered (λ n. n) r

abbrev pub data_of : Result Text AtPacketError → OrRefused Data
data_of r = answered (λ t. data_at t.start t.len) r

abbrev pub address_of : Result Address AtPacketError → OrRefused Read
address_of r = answered (λ a. values (num a.socket ∷ at a.ip ∷ num a.port ∷ []) []) r

-- the kind that a letter of a row stands for, and those of its letters
unfoldable pub kind_of : ℕ → Kind
kind_of c =
    cond (eqb c (code "b")) (bits 8)
    (cond (eqb c (code "w")) (bits 16)
    (cond (eqb c (code "l")) (bits 32)
    (cond (eqb c (code "i")) ip_type
    (cond (eqb c (code "t")) bt_type (cond (eqb c (code "p")) protocol (cond (eqb c (code "r")) reason text))))))

abbrev pub kinds_in : List ℕ → List Kind
kinds_in cs = map kind_of cs

-- the letters of a table say its kinds
abbrev pub Legible : List Row → Type 0
Legible rows = map (λ r. kinds_in (letters_of r)) rows ≡ map row_kinds rows

-- the first row with a name, by its number, and the rows with that name after it; or no row has it
abbrev pub Finds : List Row → List ℕ → Option ℕ → Type 0
Finds rows name (Some i) = (r : Row) × (row_no rows i ≡ good r) × (rows_named rows name ≡ r ∷ rows_named (drop (suc i) rows) name)
Finds rows name None = rows_named rows name ≡ []

-- the same of the rows from one on: the first of them with the name, up to another row; or none up to that one has it
abbrev pub FindsBetween : List Row → List ℕ → ℕ → ℕ → Option ℕ → Type 0
FindsBetween rows name from to (Some i) = (r : Row) × (row_no rows i ≡ good r) × (rows_named (drop from rows) name ≡ r ∷ rows_named (drop (suc i) rows) name)
FindsBetween rows name from to None = rows_named (drop from rows) name ≡ rows_named (drop to rows) name

-- the letters of a row, and none where there is no row
abbrev pub letters_in : OrRefused Row → List ℕ
letters_in (good r) = letters_of r
letters_in (refused n) = []

-- the event that was read, by the table's row and its fields
abbrev pub with_fields : OrRefused Row → List Field → OrRefused Event
with_fields (good r) fs = good (event r (values_of (row_kinds r) 0 fs))
with_fields (refused n) fs = refused n

abbrev pub outcome_by : List Row → ℕ → List Field → Stop → OrRefused Event
outcome_by rows row fs (Ok all) = with_fields (row_no rows row) fs
outcome_by rows row fs (Err e) = refused (refusal_of e)

abbrev pub is_unsupported : Stop → Bool
is_unsupported (Ok all) = false
is_unsupported (Err e) = eqb (refusal_no e) 13

-- the event of a row that was found; of the first row of `+UUDPC`, with the second after it
abbrev pub read_found : OrRefused Row → List Part → OrRefused Event
read_found (good r) fs = read_row r fs
read_found (refused n) fs = refused n

abbrev pub read_peer : ℕ → List Part → OrRefused Event
read_peer i fs = cond (eqb i 0) (by_type (w26.UUDPC ∷ w26.UUDPC-BT ∷ []) fs) (read_found (row_no w26.table i) fs)
