-- The line of a refusal: `refused` and its name.
use Rattle.std.specs.Prelude.{ℕ, List, [], ◌∷◌, ◌++◌, cond, ltb}
use Rattle.text.specs.Bytes.{bytes}
use Rattle.render.specs.Words.{Name, ◌is◌, name_in}

unfoldable pub refusals : List Name
refusals =
    (1 is "PacketDecodeFramingInvalid")
    ∷ (2 is "PacketDecodeTargetMemorySizeInvalid")
    ∷ (3 is "PacketTypeDecodeLengthMismatch")
    ∷ (4 is "PayloadTypeUnknown")
    ∷ (5 is "ConnectEventUnsupported")
    ∷ (6 is "ConnectEventDecodeError")
    ∷ (7 is "DisconnectEventDecodeError")
    ∷ (8 is "AtRequestEventDecodeError")
    ∷ (9 is "PacketEncodeTypeUnknown")
    ∷ (10 is "PacketEncodePayloadSizeInvalid")
    ∷ (11 is "Utf8DecodeFailed")
    ∷ (12 is "FramingDecodeFailed")
    ∷ (13 is "TypeDecodeUnsupported")
    ∷ (14 is "TypeDecodeParameterMissing")
    ∷ (15 is "TypeDecodeParameterDataTypeInvalid")
    ∷ (16 is "EventUnknown")
    ∷ (17 is "FieldNotWritable")
    ∷ (18 is "EventBufferTooSmall")
    ∷ (19 is "CaptureHeaderInvalid")
    ∷ (20 is "CaptureRecordInvalid")
    ∷ (21 is "CaptureBufferTooSmall")
    ∷ (22 is "RangeListFull")
    ∷ (23 is "DumpTooLong")
    ∷ []

unfoldable pub refused_line : ℕ → List ℕ
refused_line n = bytes "refused " ++ name_in refusals n

-- of a frame: `AtPacketError` before a refusal of the AT layer, whose numbers begin at 11
unfoldable pub frame_refused_line : ℕ → List ℕ
frame_refused_line n = bytes "refused " ++ cond (ltb 10 n) (bytes "AtPacketError ") [] ++ name_in refusals n
