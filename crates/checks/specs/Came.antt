-- Where the values of an answer came from: each is what one field's bytes say, so that the fields of an accepted input account for the whole answer.
use Rattle.std.specs.Prelude.{ℕ, ◌+◌, ◌*◌, ◌-◌, ◌≡◌, List, [], ◌∷◌, length, drop}
use Rattle.text.specs.Bytes.{part}
use Rattle.at.specs.Refusal.{OrRefused, good}
use Rattle.at.specs.Event.{Kind, kinds_of, Value, num, place, Event, event, ReadEvent, event_to, read_field}
use Rattle.at.specs.Response.{Response, ok, other, error}
use Rattle.edm.specs.Packet.{Packet, connect_event, disconnect_event, data_packet, data_command, at_request, at_response, at_packet, resend_packet, start_packet}
use Rattle.checks.specs.Part.{Part, ◌from◌for◌, InOrder, EachWithin}
use Rattle.checks.specs.declared.part.PartName.{PartName}
use Rattle.checks.specs.declared.part.PartName.TheVariants.{StartByte, Length, Identifier, Channel, ConnectType, Protocol, RemoteAddress, RemotePort, LocalAddress, LocalPort, Data, Text, Name, Field, Marker, DataLength, EndByte}

-- how a field says a value: not at all, since it only shapes the input; as a number, high byte first; as its bytes, which are a place and a length;
-- or as the field of an event with a number and a kind
pub data How : Type 0 where
  as_shape as_number as_bytes : How
  as_field : ℕ → Kind → How

-- the field i, of the first of these kinds
abbrev pub field_how : ℕ → List Kind → How
field_how i [] = as_shape
field_how i (k ∷ ks) = as_field i k

-- by its name; the fields of an event are of the kinds ks
abbrev pub how_of : List Kind → PartName → How
how_of ks StartByte = as_shape
how_of ks Length = as_shape
how_of ks Identifier = as_shape
how_of ks Channel = as_number
how_of ks ConnectType = as_shape
how_of ks Protocol = as_number
how_of ks RemoteAddress = as_bytes
how_of ks RemotePort = as_number
how_of ks LocalAddress = as_bytes
how_of ks LocalPort = as_number
how_of ks Data = as_bytes
how_of ks Text = as_bytes
how_of ks Name = as_shape
how_of ks (Field i) = field_how i (drop (i - 1) ks)
how_of ks Marker = as_shape
how_of ks DataLength = as_shape
how_of ks EndByte = as_shape

-- the number that bytes say after n, high byte first
unfoldable pub high_first : ℕ → List ℕ → ℕ
high_first n [] = n
high_first n (b ∷ s) = high_first (n * 256 + b) s

-- what a field says: nothing, or what its bytes are read as
pub data Said : Type 0 where
  nothing : Said
  says : OrRefused Value → Said

abbrev pub said_by : How → ℕ → List ℕ → Said
said_by as_shape p b = nothing
said_by as_number p b = says (good (num (high_first 0 b)))
said_by as_bytes p b = says (good (place p (length b)))
said_by (as_field i k) p b = says (read_field i k p b)

-- a field that says something gives the first of some values, and the fields after it give the others
abbrev pub Gives : Said → List Value → (List Value → Type 0) → Type 0
Gives nothing vs others = others vs
Gives (says a) [] others = ⊥
Gives (says a) (v ∷ vs) others = (a ≡ good v) × others vs

-- these values came from these fields of the input s, one after the other, with none left on either side
unfoldable pub Came : List Kind → List ℕ → List Part → List Value → Type 0
Came ks s [] [] = Unit {0}
Came ks s [] (v ∷ vs) = ⊥
Came ks s ((n from p for l) ∷ ps) vs = Gives (said_by (how_of ks n) p (part s p l)) vs (Came ks s ps)

-- some fields of the input s, from the place p on, account for the values of an answer: they stand in order, inside the input, and the values came
-- from them
pub record Accounts (ks : List Kind) (s : List ℕ) (p : ℕ) (ps : List Part) (vs : List Value) : Type 0 where
  pub order : InOrder p ps
  pub within : EachWithin (length s) ps
  pub came : Came ks s ps vs

-- the values of an answer, and the kinds of an event's fields
abbrev pub event_values : Event → List Value
event_values (event r vs) = vs

abbrev pub event_kinds : Event → List Kind
event_kinds (event r vs) = kinds_of r

abbrev pub read_values : ReadEvent → List Value
read_values (event_to e past) = event_values e

abbrev pub read_kinds : ReadEvent → List Kind
read_kinds (event_to e past) = event_kinds e

abbrev pub response_values : Response → List Value
response_values (ok p n) = place p n ∷ []
response_values (other p n) = place p n ∷ []
response_values error = []

abbrev pub packet_values : Packet → List Value
packet_values (connect_event vs) = vs
packet_values (disconnect_event vs) = vs
packet_values (data_packet vs) = vs
packet_values (data_command vs) = vs
packet_values (at_request v) = v ∷ []
packet_values (at_response r) = response_values r
packet_values (at_packet e) = event_values e
packet_values resend_packet = []
packet_values start_packet = []

abbrev pub packet_kinds : Packet → List Kind
packet_kinds (connect_event vs) = []
packet_kinds (disconnect_event vs) = []
packet_kinds (data_packet vs) = []
packet_kinds (data_command vs) = []
packet_kinds (at_request v) = []
packet_kinds (at_response r) = []
packet_kinds (at_packet e) = event_kinds e
packet_kinds resend_packet = []
packet_kinds start_packet = []
