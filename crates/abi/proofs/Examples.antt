-- Calls with the numbers that they give, one accepted and one refused of each kind, and the theorem that all of them hold, by computation.
-- Inputs and numbers are those of document 01, and of document 02 for the name `UUNERR`. Rows, and the numbers 253 and 254, are of this crate alone.
use Prim.Native.Nat.{ℕ, ◌+◌}
use mathlib.Core.Path.{◌≡◌, refl}
use mathlib.Core.List.{List, [], ◌∷◌, ◌++◌}
use lib.ListN.{replicate}
use Rattle.text.specs.Bytes.{bytes, hex, same, starts_with, part}
use Rattle.text.specs.Find.{first_of, last_below, last_of}
use Rattle.text.specs.Field.{fields_from, join}
use Rattle.text.specs.Decimal.{digits_of, decimal}
use Rattle.text.specs.Number.{digits_from, under, digits, signed, number}
use Rattle.text.specs.Utf8.{table as table37, seq_len, passed, valid_up_to, utf8, inside_character}
use Rattle.at.specs.Refusal.{OrRefused, good}
use Rattle.at.specs.Written.{answer_to, after}
use Rattle.at.specs.Event.{read_field, take_kind, take_kinds, read_row}
use Rattle.at.specs.Line.{before, ends_in, ended, framed, rows_named, fields_after, by_type, read_text, read_line}
use Rattle.at.specs.Binary.{fields_up_to, read_fields, find_marker, read_data, read_body, try_rows}
use Rattle.at.specs.Response.{read_rest, read_response, read_body as read_response_body}
use Rattle.at.specs.W26 as w26
use Rattle.at.specs.W36 as w36
use Rattle.at.specs.W36.{binary_table}
use Rattle.at.specs.Walk.{read_either, step_at}
use Rattle.at.specs.Parts.{row_no, number_in}
use Rattle.writer.specs.Line.{after_name, ending, line_with, line_of}
use Rattle.writer.specs.Write.{writable_fields, writable, to_write}
use Rattle.edm.specs.Packet.{identifiers, carried}
use Rattle.edm.specs.Payload.{read_data_event}
use Rattle.edm.specs.Frame.{read_frame}
use Rattle.edm.specs.Command.{frame, command, request_of, to_send}
use Rattle.abi.specs.Code.{read_code, binary_code, why_code, why_binary_code, frame_base, line_base, write_code}
use Rattle.abi.specs.Row.{values_numbers, read_numbers, response_numbers, packet_numbers, encode, encode_tried, encode_step}
use Rattle.abi.specs.Given.{values_at, all_hold, event_in, event_in26, event_in36, line_for}

-- a call's number, or the buffer that a write leaves, and what the document says of it
pub data Example : Type 0 where
  ◌gives◌ : ℕ → ℕ → Example
  ◌leaves◌ : List ℕ → List ℕ → Example

infix 20 ◌gives◌ ◌leaves◌
abbrev pub Holds : Example → Type 0
Holds (r gives n) = r ≡ n
Holds (b leaves t) = b ≡ t

abbrev pub All : List Example → Type 0
All [] = Unit {0}
All (e ∷ es) = Holds e × All es

-- what is sent for a request, for data on channel 3, and for a resend into 6 bytes and into 5
abbrev request : OrRefused (List ℕ)
request = to_send 9 (request_of (bytes "AT"))

abbrev sent_data : OrRefused (List ℕ)
sent_data = to_send 8 (good (command 0x36 (3 ∷ hex "41")))

abbrev resend : OrRefused (List ℕ)
resend = to_send 6 (good (command 0x56 []))

abbrev no_resend : OrRefused (List ℕ)
no_resend = to_send 5 (good (command 0x56 []))

-- what is written for a network error given as a row, and for one byte of data from socket 2; a row of 16 numbers, and socket 256
abbrev zeros : List ℕ
zeros = replicate 12 0

abbrev network_error : OrRefused (List ℕ)
network_error = line_for 15 [] (event_in26 (0 ∷ 12 ∷ 0 ∷ 1 ∷ 0 ∷ zeros))

abbrev one_byte : OrRefused (List ℕ)
one_byte = line_for 15 (hex "FF") (event_in36 (0 ∷ 13 ∷ 2 ∷ 0 ∷ 1 ∷ zeros))

abbrev short_row : OrRefused (List ℕ)
short_row = line_for 15 [] (event_in26 (0 ∷ 12 ∷ 0 ∷ 1 ∷ zeros))

abbrev no_socket : OrRefused (List ℕ)
no_socket = line_for 15 (hex "FF") (event_in36 (0 ∷ 13 ∷ 256 ∷ 0 ∷ 1 ∷ zeros))

abbrev pub examples : List Example
examples =
    (read_code (read_frame (hex "AA 00 02 00 71 55")) gives 0)
    ∷ (read_code (read_frame (hex "AA 00 05 00 31 01 07 55")) gives 3)
    ∷ (read_code (read_line w26.w26 0 (bytes "\r\n+UUDPD:+007\r\n")) gives 0)
    ∷ (read_code (read_line w26.w26 0 (bytes "\r\nUUNERR:0,1\r\n")) gives 16)
    ∷ (read_code (read_line w36.w36 0 (bytes "\r\n+UEWSNU\r\n\r\n+UESOC:1\r\n")) gives 0)
    ∷ (read_code (read_line w36.w36 0 (bytes "\r\n")) gives 12)
    ∷ (binary_code (try_rows binary_table 0 (bytes "\r\n+UESODB:2" ++ hex "01 00 01 FF")) gives 0)
    ∷ (binary_code (try_rows binary_table 0 (bytes "\r\n+UESODB:2")) gives 12)
    ∷ (binary_code (try_rows binary_table 0 (bytes "\r\n+UEWSNU\r\n")) gives 255)
    ∷ (why_code (read_line w26.w26 0 (bytes "\r\n+UUDPC:1,2,9,a,1,b,2\r\n")) gives 0x04030F)
    ∷ (why_code (read_line w26.w26 0 (bytes "\r\n+UUDPC:1,2,1,a\r\n")) gives 0x00050E)
    ∷ (why_binary_code (try_rows binary_table 0 (bytes "\r\n+UESODB:2,7" ++ hex "01 00 00")) gives 0x02010F)
    ∷ (read_code (read_response 0 (bytes "\r\n+A\r\nOK\r\n")) gives 0)
    ∷ (read_code (read_response 0 (bytes "+A")) gives 12)
    ∷ (valid_up_to (hex "41 ED A0 80") gives 1)
    ∷ (write_code frame_base (answer_to request) gives 9)
    ∷ (after (hex "00 00 00 00 00 00 00 00 00") request leaves hex "AA 00 05 00 44 41 54 0D 55")
    ∷ (write_code frame_base (answer_to sent_data) gives 8)
    ∷ (after (hex "00 00 00 00 00 00 00 00") sent_data leaves hex "AA 00 04 00 36 03 41 55")
    ∷ (write_code frame_base (answer_to resend) gives 6)
    ∷ (write_code frame_base (answer_to no_resend) gives 65538)
    ∷ (after (hex "01 02 03 04 05") no_resend leaves hex "01 02 03 04 05")
    ∷ (encode (read_numbers w26.table) (read_line w26.w26 0 (bytes "\r\n+UUDPD:+007\r\n")) leaves 0 ∷ 1 ∷ 7 ∷ 15 ∷ [])
    ∷ (encode (read_numbers w26.table) (read_line w26.w26 0 (bytes "\r\n+UUDPC:1,2,9,a,1,b,2\r\n")) leaves 15 ∷ 3 ∷ 4 ∷ [])
    ∷ (encode (read_numbers w36.rows36) (read_line w36.w36 0 (bytes "\r\n+UEWSNU\r\n\r\n+UESOC:1\r\n")) leaves 0 ∷ 9 ∷ 11 ∷ [])
    ∷ (encode_tried (try_rows binary_table 0 (bytes "\r\n+UESODB:2" ++ hex "01 00 01 FF")) leaves 0 ∷ 13 ∷ 2 ∷ 14 ∷ 1 ∷ 15 ∷ [])
    ∷ (encode_step (step_at (bytes "\r\n+UESOC:1\r\n\r\n+UESOC:2\r\n") 12) leaves 0 ∷ 0 ∷ 2 ∷ 24 ∷ [])
    ∷ (encode_step (step_at (bytes "\r\n+UESOC:1\r\n\r\n+UESOC:x\r\n") 12) leaves 15 ∷ 1 ∷ 2 ∷ 12 ∷ [])
    ∷ (encode response_numbers (read_response 0 (bytes "\r\n+A\r\nOK\r\n")) leaves 0 ∷ 0 ∷ 2 ∷ 2 ∷ [])
    ∷ (encode packet_numbers (read_frame (hex "AA 00 04 00 36 03 41 55")) leaves 0 ∷ 0x31 ∷ 3 ∷ 6 ∷ 1 ∷ [])
    ∷ (encode packet_numbers (read_frame (hex "AA 00 0E 00 41 0D 0A 2B 55 55 45 54 48 4C 55 0D 0A 55")) leaves 0 ∷ 0x41 ∷ 8 ∷ [])
    ∷ (write_code line_base (answer_to network_error) gives 15)
    ∷ (after (replicate 15 0) network_error leaves bytes "\r\n+UUNERR:0,1\r\n")
    ∷ (write_code line_base (answer_to one_byte) gives 15)
    ∷ (after (replicate 15 0) one_byte leaves (bytes "\r\n+UESODB:2" ++ hex "01 00 01 FF"))
    ∷ (write_code line_base (answer_to short_row) gives line_base + 254)
    ∷ (write_code line_base (answer_to no_socket) gives line_base + 253)
    ∷ []

pub all_hold_lem : All examples
unfolding same starts_with first_of last_below last_of fields_from digits_from under digits signed number table37 seq_len passed valid_up_to utf8 inside_character read_field take_kind take_kinds read_row before ends_in ended framed rows_named fields_after by_type read_text read_line fields_up_to read_fields find_marker read_data read_body try_rows read_rest read_response read_response_body w26.table w36.table binary_table identifiers carried read_data_event read_frame frame to_send to_write writable writable_fields line_of line_with after_name ending join decimal digits_of part row_no number_in w36.rows36 values_at all_hold event_in values_numbers step_at read_either
all_hold_lem = (refl, (refl, (refl, (refl, (refl, (refl, (refl, (refl, (refl, (refl, (refl, (refl, (refl, (refl, (refl, (refl, (refl, (refl, (refl, (refl, (refl, (refl, (refl, (refl, (refl, (refl, (refl, (refl, (refl, (refl, (refl, (refl, (refl, (refl, (refl, (refl, (refl, tt)))))))))))))))))))))))))))))))))))))
