-- A read's answer as a row of numbers: 0 and what was read, or the refusal.
use Rattle.std.specs.Prelude.{ℕ, ◌≡◌, List, [], ◌∷◌, ◌++◌, cond, ltb, length, drop}
use Rattle.at.specs.Refusal.{Refusal, number_of, OrRefused, good, refused}
use Rattle.at.specs.Event.{Row, Value, num, place, Event, event, ReadEvent, event_to}
use Rattle.at.specs.Parts.{number_in}
use Rattle.at.specs.Binary.{Tried, not_binary, tried}
use Rattle.at.specs.Response.{Response, ok, error, other}
use Rattle.at.specs.Walk.{Step, one, end, refused_at}
use Rattle.at.specs.W26 as w26
use Rattle.at.specs.W36 as w36
use Rattle.edm.specs.Packet.{Packet, connect_event, disconnect_event, data_packet, data_command, at_request, at_response, at_packet, resend_packet, start_packet}
use Rattle.abi.specs.Code.{field_no, reason_no}

-- a number is itself; a text, data or an address is its place and its length
abbrev pub value_numbers : Value → List ℕ
value_numbers (num n) = n ∷ []
value_numbers (place p n) = p ∷ n ∷ []

unfoldable pub values_numbers : List Value → List ℕ
values_numbers [] = []
values_numbers (v ∷ vs) = value_numbers v ++ values_numbers vs

-- an event: its number in the table of its radio, counted from 0, and its fields from left to right
abbrev pub event_numbers : List Row → Event → List ℕ
event_numbers rows (event r vs) = number_in rows r ∷ values_numbers vs

-- and the place just past it
abbrev pub read_numbers : List Row → ReadEvent → List ℕ
read_numbers rows (event_to e past) = event_numbers rows e ++ past ∷ []

-- a response: 0 OK, 1 ERROR, 2 another, and its text
abbrev pub response_numbers : Response → List ℕ
response_numbers (ok p n) = 0 ∷ p ∷ n ∷ []
response_numbers error = 1 ∷ []
response_numbers (other p n) = 2 ∷ p ∷ n ∷ []

-- a packet: the identifier of its kind, and its contents. A frame ends with its packet, so no place past it is reported
abbrev pub packet_numbers : Packet → List ℕ
packet_numbers (connect_event vs) = 0x11 ∷ values_numbers vs
packet_numbers (disconnect_event vs) = 0x21 ∷ values_numbers vs
packet_numbers (data_packet vs) = 0x31 ∷ values_numbers vs
packet_numbers (data_command vs) = 0x36 ∷ values_numbers vs
packet_numbers (at_request v) = 0x44 ∷ value_numbers v
packet_numbers (at_response r) = 0x45 ∷ response_numbers r
packet_numbers (at_packet e) = 0x41 ∷ event_numbers w26.table e
packet_numbers resend_packet = 0x56 ∷ []
packet_numbers start_packet = 0x71 ∷ []

-- a refusal: its number, the field and the reason
abbrev pub refusal_numbers : Refusal → List ℕ
refusal_numbers n = number_of n ∷ field_no n ∷ reason_no n ∷ []

-- the row of an answer, by the numbers of what was read
abbrev pub encode : {A : Type 0} → (A → List ℕ) → OrRefused A → List ℕ
encode numbers (good a) = 0 ∷ numbers a
encode numbers (refused n) = refusal_numbers n

-- no binary event at all is 255
abbrev pub encode_tried : Tried → List ℕ
encode_tried (tried a) = encode (read_numbers w36.rows36) a
encode_tried not_binary = 255 ∷ []

-- the end of a walk is 252, and a refusal has after it the place where that event begins
abbrev pub encode_step : Step → List ℕ
encode_step (one e past) = 0 ∷ read_numbers w36.rows36 (event_to e past)
encode_step end = 252 ∷ []
encode_step (refused_at n p) = refusal_numbers n ++ p ∷ []

-- What a read promises of a lent row. An answer has at most 17 numbers: seven values of two numbers each, and three more. A row that is long enough
-- begins with the answer afterwards, and its other numbers stay as they were; a shorter one stays as it was
abbrev pub over : List ℕ → List ℕ → List ℕ
over row answer = answer ++ drop (length answer) row

abbrev pub handed : List ℕ → List ℕ → List ℕ
handed row answer = cond (ltb (length row) 17) row (over row answer)

-- and the call returns the answer's first number, or 254 where the row is too short
abbrev pub first : List ℕ → ℕ
first [] = 0
first (n ∷ ns) = n

pub record HandsOut (row answer : List ℕ) (r : ℕ) (exit : List ℕ) : Type 0 where
  pub answers : r ≡ cond (ltb (length row) 17) 254 (first answer)
  pub leaves : exit ≡ handed row answer
