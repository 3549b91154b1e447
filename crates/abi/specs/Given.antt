-- A row that is given to a writer: which event or packet it is. It has 17 numbers or more (254), and begins as a read hands it out: 0, the number of the
-- case, the fields. Its texts and data are places in a source, and what stands after its fields is not looked at.
use Rattle.std.specs.Prelude.{ℕ, suc, ◌+◌, List, [], ◌∷◌, ◌++◌, Bool, true, cond, ◌&&◌, eqb, ltb, length, get_or}
use Rattle.at.specs.Refusal.{OrRefused, good, refused, no}
use Rattle.at.specs.Event.{Kind, bits, text, ip_type, bt_type, protocol, reason, Row, kinds_of, Value, num, place, Event, event}
use Rattle.at.specs.Parts.{row_no}
use Rattle.at.specs.Typed.{holds}
use Rattle.at.specs.W26 as w26
use Rattle.at.specs.W36 as w36
use Rattle.writer.specs.Write.{to_write}
use Rattle.edm.specs.Packet.{Carries, connect, disconnect, data_event, request, response, at_event, resend, start, unknown, identifiers, carried}
use Rattle.edm.specs.Command as command
use Rattle.at.specs.declared.Text.{Text}
use Rattle.edm.specs.declared.EdmPacket.{EdmPacket}
use Rattle.edm.specs.declared.EdmPacket.TheVariants as is

abbrev pub number : List ℕ → ℕ → ℕ
number row k = get_or row k 0

-- a text takes two numbers, any other kind one
abbrev pub width : Kind → ℕ
width (bits w) = 1
width text = 2
width ip_type = 1
width bt_type = 1
width protocol = 1
width reason = 1

abbrev pub value_at : Kind → List ℕ → ℕ → Value
value_at (bits w) row k = num (number row k)
value_at text row k = place (number row k) (number row (suc k))
value_at ip_type row k = num (number row k)
value_at bt_type row k = num (number row k)
value_at protocol row k = num (number row k)
value_at reason row k = num (number row k)

-- the values of these kinds, whose numbers stand one after the other from the place k on; and that each number fits
unfoldable pub values_at : List Kind → List ℕ → ℕ → List Value
values_at [] row k = []
values_at (kind ∷ kinds) row k = value_at kind row k ∷ values_at kinds row (k + width kind)

unfoldable pub all_hold : List Kind → List ℕ → ℕ → Bool
all_hold [] row k = true
all_hold (kind ∷ kinds) row k = holds kind (number row k) && all_hold kinds row (k + width kind)

-- the kinds of the values of the row i: the first `texts` rows of a table are those of events in text, and the others have data after their fields,
-- which are a place as a text is
abbrev pub value_kinds : ℕ → ℕ → Row → List Kind
value_kinds texts i r = cond (ltb i texts) (kinds_of r) (kinds_of r ++ text ∷ [])

abbrev pub of_kinds : Row → List Kind → List ℕ → OrRefused Event
of_kinds r kinds row = cond (all_hold kinds row 2) (good (event r (values_at kinds row 2))) (refused (no 253))

abbrev pub of_row : ℕ → List ℕ → OrRefused Row → OrRefused Event
of_row texts row (good r) = of_kinds r (value_kinds texts (number row 1) r) row
of_row texts row (refused n) = refused (no 253)

-- a row that begins with 0, and is long enough
abbrev pub given : {A : Type 0} → List ℕ → OrRefused A → OrRefused A
given row a = cond (ltb (length row) 17) (refused (no 254)) (cond (eqb (number row 0) 0) a (refused (no 253)))

unfoldable pub event_in : ℕ → List Row → List ℕ → OrRefused Event
event_in texts rows row = given row (of_row texts row (row_no rows (number row 1)))

abbrev pub event_in26 : List ℕ → OrRefused Event
event_in26 row = event_in (length w26.table) w26.table row

abbrev pub event_in36 : List ℕ → OrRefused Event
event_in36 row = event_in (length w36.table) w36.rows36 row

-- the line to write for it
abbrev pub line_for : ℕ → List ℕ → OrRefused Event → OrRefused (List ℕ)
line_for room src (good e) = to_write room src e
line_for room src (refused n) = refused n

-- A packet: a data command with its channel and data, a request with its text, a resend. The identifier of any other packet is enough, since no writer
-- takes one, whatever it holds; the start event stands for them all
abbrev pub text_at : List ℕ → ℕ → Text
text_at row k = record { start = number row k; len = number row (suc k) }

abbrev pub other_packet : Carries → OrRefused EdmPacket
other_packet connect = good is.StartEvent
other_packet disconnect = good is.StartEvent
other_packet data_event = good is.StartEvent
other_packet request = good is.StartEvent
other_packet response = good is.StartEvent
other_packet at_event = good is.StartEvent
other_packet resend = good is.StartEvent
other_packet start = good is.StartEvent
other_packet unknown = refused (no 253)

abbrev pub data_command_in : List ℕ → OrRefused EdmPacket
data_command_in row = cond (ltb (number row 2) 256) (good (is.DataCommand (record { 0 = number row 2 }) (text_at row 3))) (refused (no 253))

abbrev pub of_identifier : List ℕ → ℕ → OrRefused EdmPacket
of_identifier row id =
    cond (eqb id 0x36) (data_command_in row)
    (cond (eqb id 0x44) (good (is.ATRequest (text_at row 2)))
    (cond (eqb id 0x56) (good is.ResendConnectEvents) (other_packet (carried identifiers id))))

unfoldable pub packet_in : List ℕ → OrRefused EdmPacket
packet_in row = given row (of_identifier row (number row 1))

-- the frame to write for it
abbrev pub frame_for : ℕ → List ℕ → OrRefused EdmPacket → OrRefused (List ℕ)
frame_for room src (good p) = command.to_write room src p
frame_for room src (refused n) = refused n
