-- Examples with the check, the refusal and the byte that 02 asks for, by computation. Where two checks have one number, one example breaks both: the
-- readers' answers cannot tell their order, these can.
use mathlib.Core.Path.{◌≡◌, refl}
use mathlib.Core.List.{List, [], ◌∷◌, ◌++◌}
use Prim.Native.Nat.{ℕ}
use Rattle.text.specs.Bytes.{bytes, hex, same, starts_with, part, every}
use Rattle.text.specs.Find.{first_of}
use Rattle.text.specs.Field.{fields_from}
use Rattle.text.specs.Utf8.{table as table37, seq_len, passed, valid_up_to, utf8, inside_character}
use Rattle.text.specs.declared.number.NumberError.TheVariants.{Empty, Byte, Large}
use Rattle.at.specs.Refusal.{no, missing, invalid}
use Rattle.at.specs.declared.FieldError.TheVariants.{NoNumber, NotListed}
use Rattle.at.specs.Line.{before, ends_in, rows_named, fields_after}
use Rattle.at.specs.Binary.{fields_up_to}
use Rattle.at.specs.W26 as w26
use Rattle.at.specs.W36 as w36
use Rattle.at.specs.W36.{binary_table}
use Rattle.edm.specs.Packet.{identifiers, carried}
use Rattle.checks.specs.Check.{Finding, all_hold, broken, first_broken}
use Rattle.checks.specs.Number.{not_empty, only_allowed, value_from, small_enough}
use Rattle.checks.specs.Line.{field_checks, kinds_for, text_checks, line_checks}
use Rattle.checks.specs.Response.{response_checks}
use Rattle.checks.specs.Binary.{Binary, not_binary, binary, body_checks, binary_checks}
use Rattle.checks.specs.Frame.{frame_checks}
use Rattle.checks.specs.declared.CheckName.TheVariants as c

abbrev found : Binary → Finding
found not_binary = all_hold
found (binary checks) = first_broken checks

pub data Example : Type 0 where
  a_frame a_line26 a_line36 a_response a_binary : List ℕ → Finding → Example

abbrev pub Holds : Example → Type 0
Holds (a_frame s x) = first_broken (frame_checks s) ≡ x
Holds (a_line26 s x) = first_broken (line_checks w26.w26 0 s) ≡ x
Holds (a_line36 s x) = first_broken (line_checks w36.w36 0 s) ≡ x
Holds (a_response s x) = first_broken (response_checks 0 s) ≡ x
Holds (a_binary s x) = found (binary_checks binary_table 0 s) ≡ x

abbrev pub All : List Example → Type 0
All [] = Unit {0}
All (e ∷ es) = Holds e × All es

abbrev pub examples : List Example
examples =
    a_frame (hex "AA F0 02 00 71 55") all_hold
    ∷ a_frame (hex "") (broken c.FrameOfTwo (no 1) 0)
    ∷ a_frame (hex "41") (broken c.FrameOfTwo (no 1) 1)
    ∷ a_frame (hex "41 42") (broken c.StartByte (no 1) 0)
    ∷ a_frame (hex "AA 41 42") (broken c.EndByte (no 1) 2)
    ∷ a_frame (hex "AA 55") (broken c.FrameOfSix (no 2) 2)
    ∷ a_frame (hex "AA 00 05 00 31 01 07 55") (broken c.FrameLength (no 3) 1)
    ∷ a_frame (hex "AA 00 02 00 72 55") (broken c.Identifier (no 4) 3)
    ∷ a_frame (hex "AA 00 03 00 11 01 55") (broken c.ConnectOfTwo (no 2) 6)
    ∷ a_frame (hex "AA 00 04 00 11 01 03 55") (broken c.ConnectType (no 5) 6)
    ∷ a_frame (hex "AA 00 04 00 11 01 02 55") (broken c.ConnectSize (no 6) 7)
    ∷ a_frame (hex "AA 00 05 00 21 01 02 03 55") (broken c.DisconnectSize (no 7) 8)
    ∷ a_frame (hex "AA 00 02 00 31 55") (broken c.DataChannel (no 2) 5)
    ∷ a_frame (hex "AA 00 05 00 44 41 C3 41 55") (broken c.RequestUtf8 (no 8) 6)
    ∷ a_frame (hex "AA 00 02 00 41 55") (broken c.LineOfTwo (no 12) 5)
    ∷ a_frame (hex "AA 00 0E 00 41 0D 0A 2B 55 55 44 50 44 3A 78 0D 0A 55") (broken (c.FieldByte 1) (invalid 1 (NoNumber Byte)) 14)
    ∷ a_line26 (hex "0D 0A 41 E2 82") (broken c.Utf8 (no 11) 3)
    ∷ a_line26 (hex "41") (broken c.LineOfTwo (no 12) 1)
    ∷ a_line26 (hex "41 C3 A9") (broken c.PlaceTwo (no 12) 2)
    ∷ a_line26 (bytes "\r\n+UUDPD:7") (broken c.LineEnd (no 12) 10)
    ∷ a_line26 (bytes "\r\nUUNERR:0,1\r\n") (broken c.EventName (no 16) 2)
    ∷ a_line26 (bytes "\r\n+UUNU\r\n") (broken (c.FieldThere 1) (missing 1) 7)
    ∷ a_line26 (bytes "\r\n+UUNU:\r\n") (broken (c.FieldEmpty 1) (invalid 1 (NoNumber Empty)) 8)
    ∷ a_line26 (bytes "\r\n+UUNU:+\r\n") (broken (c.FieldByte 1) (invalid 1 (NoNumber Byte)) 8)
    ∷ a_line26 (bytes "\r\n+UUNU:99999x\r\n") (broken (c.FieldByte 1) (invalid 1 (NoNumber Byte)) 8)
    ∷ a_line26 (bytes "\r\n+UUNU:65536\r\n") (broken (c.FieldLarge 1) (invalid 1 (NoNumber Large)) 8)
    ∷ a_line26 (bytes "\r\n+UUDPC:1,02\r\n") (broken (c.FieldType 2) (no 13) 11)
    ∷ a_line26 (bytes "\r\n+UUDPC:x,02\r\n") (broken (c.FieldByte 1) (invalid 1 (NoNumber Byte)) 9)
    ∷ a_line26 (bytes "\r\n+UUDPC:1,1,0,a\r\n") (broken (c.FieldThere 5) (missing 5) 16)
    ∷ a_line26 (bytes "\r\n+UUDPC:1,2,3,a\r\n") (broken (c.FieldListed 3) (invalid 3 NotListed) 13)
    ∷ a_line26 (bytes "\r\n+UUDPC:1,2,300,a\r\n") (broken (c.FieldLarge 3) (invalid 3 (NoNumber Large)) 13)
    ∷ a_line26 (bytes "\r\n+UUDPC:1,2,x\r\n") (broken (c.FieldByte 3) (invalid 3 (NoNumber Byte)) 13)
    ∷ a_line26 (bytes "\r\n+UUDPC:1,2,\r\n") (broken (c.FieldEmpty 3) (invalid 3 (NoNumber Empty)) 13)
    ∷ a_line26 (bytes "\r\n+UUWLE\r\n") (broken (c.FieldThere 1) (missing 1) 8)
    ∷ a_line26 (bytes "\r\n+UUWLE:x,a,y\r\n") (broken (c.FieldByte 1) (invalid 1 (NoNumber Byte)) 9)
    ∷ a_line26 (bytes "\r\n+UUETHLU\r\n") all_hold
    ∷ a_line36 (bytes "\r\n+UEWSNU\r\n\r\n+UESOC:1\r\n") all_hold
    ∷ a_line36 (bytes "\r\n+UESODA:1\r\nxxxx\r\n") (broken (c.FieldThere 2) (missing 2) 11)
    ∷ a_response (bytes "OK\r\n") (broken c.LastLineEnd (no 12) 4)
    ∷ a_response (bytes "OK") (broken c.FirstLineEnd (no 12) 2)
    ∷ a_binary (bytes "\r\n+UESODB:2") (broken c.Marker (no 12) 11)
    ∷ a_binary (bytes "\r\n+UESODB:2" ++ hex "01 05") (broken c.LengthBytes (no 12) 13)
    ∷ a_binary (bytes "\r\n+UESODB:2" ++ hex "01 00 02 FF") (broken c.DataBytes (no 12) 15)
    ∷ a_binary (bytes "\r\n+UESODB:2,3" ++ hex "01 00 01 FF") (broken (c.FieldByte 1) (invalid 1 (NoNumber Byte)) 10)
    ∷ a_binary (bytes "\r\n+UESODBF:2,a" ++ hex "01 00 01 FF") (broken (c.FieldThere 3) (missing 3) 14)
    ∷ []

pub all_hold_lem : All examples
unfolding same starts_with part every first_of fields_from table37 seq_len passed valid_up_to utf8 inside_character before ends_in rows_named fields_after fields_up_to w26.table w36.table binary_table identifiers carried first_broken not_empty only_allowed value_from small_enough field_checks kinds_for text_checks line_checks response_checks body_checks binary_checks frame_checks
all_hold_lem = (refl, (refl, (refl, (refl, (refl, (refl, (refl, (refl, (refl, (refl, (refl, (refl, (refl, (refl, (refl, (refl, (refl, (refl, (refl, (refl, (refl, (refl, (refl, (refl, (refl, (refl, (refl, (refl, (refl, (refl, (refl, (refl, (refl, (refl, (refl, (refl, (refl, (refl, (refl, (refl, (refl, (refl, (refl, (refl, (refl, tt)))))))))))))))))))))))))))))))))))))))))))))
