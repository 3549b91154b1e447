-- Lines of document 01, and one for each form that they leave out, computed from the definitions. Assumes nothing.
use mathlib.Core.Path.{◌≡◌, refl}
use mathlib.Core.List.{[], ◌∷◌}
use Rattle.text.specs.Bytes.{bytes, hex, part, same}
use Rattle.text.specs.Decimal.{digits_of, decimal}
use Rattle.at.specs.Refusal.{no, missing, invalid, good, refused}
use Rattle.at.specs.declared.FieldError.TheVariants.{NotListed}
use Rattle.at.specs.Event.{Value, num, place, event}
use Rattle.at.specs.W26.{UUWLD, UUETHLU}
use Rattle.at.specs.W36.{UESOC, UEWAPSA}
use Rattle.at.specs.Walk.{event_then, then_end, then_refused}
use Rattle.edm.specs.Packet.{identifiers, carried, data_packet, connect_event, at_packet}
use Rattle.checks.specs.Part.{◌from◌for◌}
use Rattle.checks.specs.Explained.{accepted, refused_by, none}
use Rattle.checks.specs.declared.CheckName.TheVariants.{FieldThere}
use Rattle.checks.specs.declared.part.PartName.TheVariants.{Name, Field}
use Rattle.edm.specs.Payload.{read_data_event}
use Rattle.edm.specs.Frame.{read_frame}
use Rattle.pcap.specs.File as captures
use Rattle.render.specs.Words.{pairs_of, name_in, reasons, number_word, values_line}
use Rattle.render.specs.Why.{why_line, why_frame_line}
use Rattle.render.specs.Refusal.{refusals, refused_line, frame_refused_line}
use Rattle.render.specs.Event.{cases26, cases36, case_of, event_line, answer_line}
use Rattle.render.specs.Frame.{frame_line}
use Rattle.render.specs.Walk.{walk_line}
use Rattle.scan.specs.Cut.{kept, skipped}
use Rattle.scan.specs.Scan.{listed, refuse}
use Rattle.render.specs.Capture.{run_line, meaning_line}
use Rattle.render.specs.Range.{more_line, scan_line}
use Rattle.render.specs.Label.{check_names, part_names}
use Rattle.render.specs.Explained.{parts_line, explained_line, binary_line}

pub data-event : frame_line (hex "AA 00 04 00 36 03 41 55") (good (data_packet (num 3 ∷ place 6 1 ∷ []))) ≡ bytes "DataEvent 3 41"
unfolding values_line number_word decimal digits_of pairs_of part
data-event = refl

-- the kind of a connect event is named after the channel
pub connect_event_lem : frame_line (hex "AA 00 11 00 11 03 02 06 C0 A8 00 01 1F 90 0A 00 00 02 04 D2 55")
    (good (connect_event (num 3 ∷ num 6 ∷ place 8 4 ∷ num 8080 ∷ place 14 4 ∷ num 1234 ∷ [])))
    ≡ bytes "ConnectEvent 3 ConnectEventIPv4 6 c0a80001 8080 0a000002 1234"
unfolding values_line number_word decimal digits_of pairs_of part
connect_event_lem = refl

pub link_up : frame_line [] (good (at_packet (event UUETHLU []))) ≡ bytes "ATEvent EthernetLinkUp"
unfolding values_line cases26 case_of same
link_up = refl

-- a reason is named
pub left_link : event_line cases26 [] (event UUWLD (num 7 ∷ num 4 ∷ [])) ≡ bytes "WifiLinkDisconnected 7 SecurityProblems"
unfolding values_line number_word name_in reasons decimal digits_of cases26 case_of same
left_link = refl

-- an empty text
pub no_text : event_line cases36 [] (event UEWAPSA (place 11 0 ∷ [])) ≡ bytes "WifiAccessPointStationAssociated -"
unfolding values_line part cases36 case_of same
no_text = refl

-- a refusal of the AT layer in a frame
pub wrapped : frame_line [] (refused (no 16)) ≡ bytes "refused AtPacketError EventUnknown"
unfolding frame_refused_line name_in refusals
wrapped = refl

-- what a refusal carries, which only the words that ask for it print
pub which_field : why_line cases26 [] (refused (invalid 3 NotListed)) ≡ bytes "refused TypeDecodeParameterDataTypeInvalid field 3 list"
unfolding refused_line name_in refusals decimal digits_of
which_field = refl

pub wrapped_field : why_frame_line [] (refused (missing 5)) ≡ bytes "refused AtPacketError TypeDecodeParameterMissing field 5"
unfolding frame_refused_line name_in refusals decimal digits_of
wrapped_field = refl

pub not-asked : answer_line cases26 [] (refused (invalid 3 NotListed)) ≡ bytes "refused TypeDecodeParameterDataTypeInvalid"
unfolding refused_line name_in refusals
not-asked = refl

-- a walk to the end, and one that stops
pub two_connected : walk_line [] (event_then (event UESOC (num 1 ∷ [])) 12 (event_then (event UESOC (num 2 ∷ [])) 24 then_end))
    ≡ bytes "SocketConnected 1 @12 ; SocketConnected 2 @24 ; end"
unfolding walk_line values_line number_word decimal digits_of cases36 case_of same
two_connected = refl

pub one_connected : walk_line [] (event_then (event UESOC (num 1 ∷ [])) 12 (then_refused (no 12) 12)) ≡ bytes "SocketConnected 1 @12 ; refused FramingDecodeFailed @12"
unfolding walk_line values_line number_word decimal digits_of cases36 case_of same refused_line name_in refusals
one_connected = refl

-- explanations: each field with its place and then its length, or the refusal, the byte and then the check
pub fields-placed : explained_line (accepted (num 0) ((Name from 2 for 6) ∷ (Field 1 from 9 for 3) ∷ [])) ≡ bytes "accepted Name@2+6 Field1@9+3"
unfolding parts_line name_in part_names decimal digits_of
fields-placed = refl

pub check-named : explained_line {A = Value} (refused_by (FieldThere 3) (missing 3) 12) ≡ bytes "refused 14 TypeDecodeParameterMissing @12 FieldThere3"
unfolding name_in refusals check_names decimal digits_of
check-named = refl

pub no-binary : binary_line none ≡ bytes "notbinary"
no-binary = refl

-- a capture: each record with its time and its frame's place, and where it stops
pub one_record : run_line (captures.record_then (captures.entry 1 20 (hex "4142")) 40 (captures.then_refused 20 42)) ≡ bytes "1.000020 @40+2 ; refused CaptureRecordInvalid @42"
unfolding run_line decimal digits_of refused_line name_in refusals
one_record = refl

-- a record with its frame, and what that means; an empty frame means nothing
pub meant : meaning_line 17 999999 (hex "AA 00 04 00 36 03 41 55") ≡ bytes "17.999999 aa00040036034155 # DataEvent 3 41"
unfolding meaning_line decimal digits_of pairs_of read_frame identifiers carried read_data_event values_line number_word part
meant = refl

pub meant_empty : meaning_line 0 0 [] ≡ bytes "0.000000 - # refused PacketDecodeFramingInvalid"
unfolding meaning_line decimal digits_of read_frame frame_refused_line name_in refusals
meant_empty = refl

-- a dump: its ranges in order, none, and more bytes than a call takes
pub three_ranges : scan_line (listed (skipped (hex "00") ∷ kept (hex "AA 00 02 00 71 55") ∷ skipped (hex "FF AA") ∷ [])) ≡ bytes "skipped 0+1 ; kept 1+6 ; skipped 7+2"
unfolding more_line decimal digits_of
three_ranges = refl

pub no_range : scan_line (listed []) ≡ bytes "-"
no_range = refl

pub too_many_bytes : scan_line (refuse 23) ≡ bytes "refused DumpTooLong"
unfolding refused_line name_in refusals
too_many_bytes = refl
