-- The words of a line, split by single spaces: numbers decimal, yes/no as 1/0, enum cases by name, text, bytes and addresses as lower-case hex,
-- empty as `-`.
use Rattle.std.specs.Prelude.{ℕ, ◌/◌, ◌%◌, List, [], ◌∷◌, ◌++◌, cond, eqb, get_or}
use Prim.Native.String.{String}
use Rattle.text.specs.Bytes.{bytes, part}
use Rattle.text.specs.Decimal.{decimal}
use Rattle.at.specs.Event.{Kind, bits, text, ip_type, bt_type, protocol, reason, Value, num, place}

-- a digit below 16
abbrev pub digit : ℕ → ℕ
digit n = get_or (bytes "0123456789abcdef") n 0

unfoldable pub pairs_of : List ℕ → List ℕ
pairs_of [] = []
pairs_of (b ∷ s) = digit (b / 16) ∷ digit (b % 16) ∷ pairs_of s

abbrev pub hex_of : List ℕ → List ℕ
hex_of [] = bytes "-"
hex_of (b ∷ s) = pairs_of (b ∷ s)

-- what a number stands for, by name
pub data Name : Type 0 where
  ◌is◌ : ℕ → String → Name

infix 30 ◌is◌
-- the name of a number; nothing where the list has none
unfoldable pub name_in : List Name → ℕ → List ℕ
name_in [] n = []
name_in ((k is name) ∷ names) n = cond (eqb n k) (bytes name) (name_in names n)

-- `is_ipv6`, by the type of the address: 2 for IPv4, 3 for IPv6
unfoldable pub is_ipv6 : List Name
is_ipv6 = (2 is "0") ∷ (3 is "1") ∷ []

unfoldable pub protocols : List Name
protocols = (1 is "TCP") ∷ (2 is "UDP") ∷ (6 is "MQTT") ∷ []

unfoldable pub reasons : List Name
reasons =
    (0 is "Unknown")
    ∷ (1 is "RemoteClose")
    ∷ (2 is "OutOfRange")
    ∷ (3 is "Roaming")
    ∷ (4 is "SecurityProblems")
    ∷ (5 is "NetworkDisabled")
    ∷ []

-- a number of a kind
unfoldable pub number_word : Kind → ℕ → List ℕ
number_word (bits w) n = decimal n
number_word text n = decimal n
number_word ip_type n = name_in is_ipv6 n
number_word bt_type n = decimal n
number_word protocol n = name_in protocols n
number_word reason n = name_in reasons n

-- a value of a kind, whose place lies in a source
abbrev pub word_of : Kind → List ℕ → Value → List ℕ
word_of k src (num n) = number_word k n
word_of k src (place start len) = hex_of (part src start len)

-- a value after a space. The type of a Bluetooth peer is no field of the Rust's enum: the name of its case says it
abbrev pub spaced_word : Kind → List ℕ → Value → List ℕ
spaced_word (bits w) src v = bytes " " ++ word_of (bits w) src v
spaced_word text src v = bytes " " ++ word_of text src v
spaced_word ip_type src v = bytes " " ++ word_of ip_type src v
spaced_word bt_type src v = []
spaced_word protocol src v = bytes " " ++ word_of protocol src v
spaced_word reason src v = bytes " " ++ word_of reason src v

-- values of these kinds, each after a space; those after the kinds are data
unfoldable pub values_line : List Kind → List ℕ → List Value → List ℕ
values_line ks src [] = []
values_line [] src (v ∷ vs) = spaced_word text src v ++ values_line [] src vs
values_line (k ∷ ks) src (v ∷ vs) = spaced_word k src v ++ values_line ks src vs
