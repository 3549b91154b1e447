-- Examples of the fields of accepted inputs, by computation: one for each layout of a frame and each kind of line.
use mathlib.Core.Path.{◌≡◌, refl}
use mathlib.Core.List.{[], ◌∷◌, ◌++◌}
use Rattle.text.specs.Bytes.{bytes, hex, starts_with}
use Rattle.text.specs.Find.{first_of}
use Rattle.at.specs.Event.{num, place, event, event_to}
use Rattle.at.specs.Response.{ok}
use Rattle.at.specs.W26.{UUDPD}
use Rattle.at.specs.W36.{UEWLD, UESODBF}
use Rattle.edm.specs.Packet.{connect_event, data_packet, at_packet, start_packet}
use Rattle.checks.specs.Slot.{span_of, field_slots, marked_slots, slots_of}
use Rattle.checks.specs.Part.{◌from◌for◌, cut, placed, response_shape, line_shape, binary_shape, parts_by, frame_parts}
use Rattle.checks.specs.declared.part.PartName.TheVariants.{StartByte, Length, Identifier, Channel, ConnectType, Protocol, RemoteAddress, RemotePort, LocalAddress, LocalPort, Data, Text, Name, Field, Marker, DataLength, EndByte}

-- a connect event has the remote end first
pub connect_parts : frame_parts (hex "AA 00 11 00 11 03 02 01 0A 00 00 07 1F 90 0A 00 00 01 C3 50 55") (connect_event (num 3 ∷ num 1 ∷ place 8 4 ∷ num 8080 ∷ place 14 4 ∷ num 50000 ∷ []))
    ≡ (StartByte from 0 for 1) ∷ (Length from 1 for 2) ∷ (Identifier from 3 for 2) ∷ (Channel from 5 for 1) ∷ (ConnectType from 6 for 1) ∷ (Protocol from 7 for 1)
    ∷ (RemoteAddress from 8 for 4) ∷ (RemotePort from 12 for 2) ∷ (LocalAddress from 14 for 4) ∷ (LocalPort from 18 for 2) ∷ (EndByte from 20 for 1) ∷ []
unfolding frame_parts placed cut slots_of span_of
connect_parts = refl

pub data_parts : frame_parts (hex "AA 00 05 00 31 03 41 42 55") (data_packet (num 3 ∷ place 6 2 ∷ []))
    ≡ (StartByte from 0 for 1) ∷ (Length from 1 for 2) ∷ (Identifier from 3 for 2) ∷ (Channel from 5 for 1) ∷ (Data from 6 for 2) ∷ (EndByte from 8 for 1) ∷ []
unfolding frame_parts placed cut slots_of span_of
data_parts = refl

-- a start event ignores its payload
pub start_parts : frame_parts (hex "AA 00 03 00 71 07 55") start_packet ≡ (StartByte from 0 for 1) ∷ (Length from 1 for 2) ∷ (Identifier from 3 for 2) ∷ (EndByte from 6 for 1) ∷ []
unfolding frame_parts placed cut slots_of span_of
start_parts = refl

-- `+UUDPD:7,x`, whose second field newer firmware may have added
pub event_parts : frame_parts (hex "AA 00 10 00 41 0D 0A 2B 55 55 44 50 44 3A 37 2C 78 0D 0A 55") (at_packet (event UUDPD (num 7 ∷ [])))
    ≡ (StartByte from 0 for 1) ∷ (Length from 1 for 2) ∷ (Identifier from 3 for 2) ∷ (Name from 7 for 6) ∷ (Field 1 from 14 for 1) ∷ (EndByte from 19 for 1) ∷ []
unfolding frame_parts placed cut slots_of span_of field_slots first_of starts_with
event_parts = refl

-- the first of two W36 events
pub line_parts_lem : let s = bytes "\r\n+UEWLD:1,+2\r\n\r\n+UEWSNU\r\n" in parts_by (line_shape 26 (event_to (event UEWLD (num 1 ∷ num 2 ∷ [])) 15)) s 0
    ≡ (Name from 2 for 6) ∷ (Field 1 from 9 for 1) ∷ (Field 2 from 11 for 2) ∷ []
unfolding parts_by placed cut slots_of span_of field_slots first_of starts_with
line_parts_lem = refl

-- a binary event with a comma in its data, and a byte after it
pub binary_parts_lem : let s = bytes "\r\n+UESODBF:2,a,80" ++ hex "01 00 02 2C FF 00" in parts_by (binary_shape 23 (event_to (event UESODBF (num 2 ∷ place 13 1 ∷ num 80 ∷ place 20 2 ∷ [])) 22)) s 0
    ≡ (Name from 2 for 8) ∷ (Field 1 from 11 for 1) ∷ (Field 2 from 13 for 1) ∷ (Field 3 from 15 for 2) ∷ (Marker from 17 for 1) ∷ (DataLength from 18 for 2) ∷ (Data from 20 for 2) ∷ []
unfolding parts_by placed cut slots_of span_of marked_slots first_of starts_with
binary_parts_lem = refl

pub response_parts_lem : let s = bytes "x\r\n+A\r\nOK\r\n" in parts_by (response_shape 0 (ok 3 2)) s 0 ≡ (Text from 3 for 2) ∷ []
unfolding parts_by placed cut slots_of span_of
response_parts_lem = refl
