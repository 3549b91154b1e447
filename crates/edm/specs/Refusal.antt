-- The refusals of the frame layer, with their numbers. A refusal of the AT layer keeps its own, with what it carries.
use Rattle.std.specs.Prelude.{ℕ}
use Rattle.at.specs.Refusal as at
use Rattle.at.specs.Refusal.{Refusal, no, number_of}
use Rattle.edm.specs.declared.EdmPacketError.{EdmPacketError}
use Rattle.edm.specs.declared.EdmPacketError.TheVariants as error

abbrev pub refusal_of : EdmPacketError → Refusal
refusal_of error.PacketDecodeFramingInvalid = no 1
refusal_of error.PacketDecodeTargetMemorySizeInvalid = no 2
refusal_of error.PacketTypeDecodeLengthMismatch = no 3
refusal_of error.PayloadTypeUnknown = no 4
refusal_of error.ConnectEventUnsupported = no 5
refusal_of error.ConnectEventDecodeError = no 6
refusal_of error.DisconnectEventDecodeError = no 7
refusal_of error.AtRequestEventDecodeError = no 8
refusal_of error.PacketEncodeTypeUnknown = no 9
refusal_of error.PacketEncodePayloadSizeInvalid = no 10
refusal_of (error.AtPacketError e) = at.refusal_of e

abbrev pub refusal_no : EdmPacketError → ℕ
refusal_no e = number_of (refusal_of e)
