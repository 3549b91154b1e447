-- The examples that document 01 marks to be proved, as one table, and the theorem that all of them hold, by computation. That of `+UUNERR` is as
-- request 2 of document 02 has it, with the bare name beside it. Those of Bluetooth are of request 3.
use Prim.Native.Nat.{ℕ}
use mathlib.Core.Path.{◌≡◌, refl}
use mathlib.Core.List.{List, [], ◌∷◌, ◌++◌}
use lib.ListN.{length}
use Rattle.text.specs.Bytes.{bytes, hex, same, starts_with, part}
use Rattle.text.specs.Find.{first_of, last_below, last_of}
use Rattle.text.specs.Field.{fields_from}
use Rattle.text.specs.Number.{digits_from, under, digits, signed, number}
use Rattle.text.specs.Utf8.{table as table37, seq_len, passed, valid_up_to, utf8, inside_character}
use Rattle.at.specs.Event.{num, place, event, ReadEvent, event_to, read_field, take_kind, take_kinds, read_row}
use Rattle.at.specs.Line.{before, ends_in, ended, framed, rows_named, fields_after, by_type, read_text, read_line}
use Rattle.at.specs.Binary.{Tried, tried, fields_up_to, read_fields, find_marker, read_data, read_body, try_rows}
use Rattle.text.specs.declared.number.NumberError.TheVariants.{Large}
use Rattle.at.specs.declared.FieldError.TheVariants.{NoNumber}
use Rattle.at.specs.Refusal.{no, missing, invalid, OrRefused, good, refused}
use Rattle.at.specs.Written.{answer_to, after}
use Rattle.at.specs.Response.{Response, ok, read_rest, read_response, read_body as read_response_body}
use Rattle.at.specs.W26 as w26
use Rattle.at.specs.W26.{UUDPC-BT, UUDPD, UUETHLU, UUNERR, UUBTUC, UUBTACLC, UUBTGRW}
use Rattle.at.specs.W36 as w36
use Rattle.at.specs.W36.{UEWSNU, UESODB, binary_table}
use Rattle.edm.specs.Packet.{Packet, start_packet, data_packet, identifiers, carried}
use Rattle.edm.specs.Payload.{read_data_event}
use Rattle.edm.specs.Frame.{read_frame}
use Rattle.edm.specs.Command.{frame, to_send, to_write}
use Rattle.edm.specs.declared.EdmPacket.{EdmPacket}
use Rattle.edm.specs.declared.EdmPacket.TheVariants.{ATRequest, ResendConnectEvents}

-- an input, and the outcome that the document states for it; of a write the source and the buffer, the number that is returned, and every byte of the
-- buffer afterwards
pub data Example : Type 0 where
  a_frame : List ℕ → OrRefused Packet → Example
  a_write : EdmPacket → List ℕ → List ℕ → OrRefused ℕ → List ℕ → Example
  a_line26 a_line36 : List ℕ → OrRefused ReadEvent → Example
  a_binary : List ℕ → Tried → Example
  a_response : List ℕ → OrRefused Response → Example

abbrev pub Holds : Example → Type 0
Holds (a_frame s o) = read_frame s ≡ o
Holds (a_write p src buf o now) = let w = to_write (length buf) src p in (answer_to w ≡ o) × (after buf w ≡ now)
Holds (a_line26 s o) = read_line w26.w26 0 s ≡ o
Holds (a_line36 s o) = read_line w36.w36 0 s ≡ o
Holds (a_binary s o) = try_rows binary_table 0 s ≡ o
Holds (a_response s o) = read_response 0 s ≡ o

abbrev pub All : List Example → Type 0
All [] = Unit {0}
All (e ∷ es) = Holds e × All es

-- a place is written with its length: `place 6 1` is one byte at place 6; after an event stands the place just past it
abbrev pub examples : List Example
examples =
    a_frame (hex "AA 00 02 00 71 55") (good start_packet)
    ∷ a_frame (hex "AA F0 02 00 71 55") (good start_packet)
    ∷ a_frame (hex "AA 55") (refused (no 2))
    ∷ a_frame (hex "") (refused (no 1))
    ∷ a_frame (hex "AA 00 05 00 31 01 07 55") (refused (no 3))
    ∷ a_frame (hex "AA 00 04 00 36 03 41 55") (good (data_packet (num 3 ∷ place 6 1 ∷ [])))
    ∷ a_write (ATRequest (record { start = 0; len = 2 })) (bytes "AT") (hex "00 01 02 03 04 05 06 07 08 09 0A 0B 0C 0D 0E 0F") (good 9) (hex "AA 00 05 00 44 41 54 0D 55 09 0A 0B 0C 0D 0E 0F")
    ∷ a_write ResendConnectEvents [] (hex "00 01 02 03 04 05") (good 6) (hex "AA 00 02 00 56 55")
    ∷ a_write ResendConnectEvents [] (hex "00 01 02 03 04") (refused (no 2)) (hex "00 01 02 03 04")
    ∷ a_line26 (bytes "\r\n+UUDPD:+007\r\n") (good (event_to (event UUDPD (num 7 ∷ [])) 15))
    ∷ a_line26 (bytes "\r\n+UUETHLU\r\n") (good (event_to (event UUETHLU []) 12))
    ∷ a_line26 (bytes "\r\n+UUNERR:0,1\r\n") (good (event_to (event UUNERR (num 0 ∷ num 1 ∷ [])) 15))
    ∷ a_line26 (bytes "\r\nUUNERR:0,1\r\n") (refused (no 16))
    ∷ a_line26 (bytes "\r\n+UUDPC:3,1,0,112233445566p,670\r\n") (good (event_to (event UUDPC-BT (num 3 ∷ num 1 ∷ num 0 ∷ place 15 13 ∷ num 670 ∷ [])) 34))
    ∷ a_line26 (bytes "\r\n+UUDPC:3,01,0,a,1\r\n") (refused (no 13))
    ∷ a_line26 (bytes "\r\n+UUBTACLC:0,1,CCF9578E0D8Ap\r\n") (good (event_to (event UUBTACLC (num 0 ∷ num 1 ∷ place 16 13 ∷ [])) 31))
    ∷ a_line26 (bytes "\r\n+UUBTACLC:0,1\r\n") (refused (missing 3))
    ∷ a_line26 (bytes "\r\n+UUBTUC:112233445566p,4294967295\r\n") (good (event_to (event UUBTUC (place 10 13 ∷ num 4294967295 ∷ [])) 36))
    ∷ a_line26 (bytes "\r\n+UUBTUC:112233445566p,4294967296\r\n") (refused (invalid 2 (NoNumber Large)))
    ∷ a_line26 (bytes "\r\n+UUBTGRW:0,35,,0\r\n") (good (event_to (event UUBTGRW (num 0 ∷ num 35 ∷ place 16 0 ∷ num 0 ∷ [])) 20))
    ∷ a_line36 (bytes "\r\n+UEWSNU\r\n\r\n+UESOC:1\r\n") (good (event_to (event UEWSNU []) 11))
    ∷ a_binary (bytes "\r\n+UESODB:2" ++ hex "01 00 01 FF") (tried (good (event_to (event UESODB (num 2 ∷ place 14 1 ∷ [])) 15)))
    ∷ a_response (bytes "\r\n+A\r\nOK\r\n") (good (ok 2 2))
    ∷ []

pub all_hold_lem : All examples
unfolding same starts_with part first_of last_below last_of fields_from digits_from under digits signed number table37 seq_len passed valid_up_to utf8 inside_character read_field take_kind take_kinds read_row before ends_in ended framed rows_named fields_after by_type read_text read_line fields_up_to read_fields find_marker read_data read_body try_rows read_rest read_response read_response_body w26.table w36.table binary_table identifiers carried read_data_event read_frame frame to_send to_write
all_hold_lem = (refl, (refl, (refl, (refl, (refl, (refl, ((refl, refl), ((refl, refl), ((refl, refl), (refl, (refl, (refl, (refl, (refl, (refl, (refl, (refl, (refl, (refl, (refl, (refl, (refl, (refl, tt)))))))))))))))))))))))
