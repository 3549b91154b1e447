use mathlib.Core.Path.{◌≡◌, refl}
use mathlib.Core.List.{[]}
use Rattle.at.specs.declared.AtPacketError.{AtPacketError}
use Rattle.edm.specs.Refusal.{refusal_of}
use Rattle.edm.specs.declared.EdmPacketError.{EdmPacketError}
use Rattle.edm.specs.declared.EdmPacketError.TheVariants as error
use Rattle.render.specs.Why.{carried_line}
use Rattle.render.proofs.PrintLaws.{prints-none}
use Rattle.render.proofs.why.of_frame.Goals as goal

-- `why::of_frame` meets its contract: a refusal of the frame itself carries nothing. Assumes nothing.
nothing_carried : (e : EdmPacketError) → ((a : AtPacketError) → e ≡ error.AtPacketError a → ⊥) → carried_line (refusal_of e) ≡ []
nothing_carried error.PacketDecodeFramingInvalid h = refl
nothing_carried error.PacketDecodeTargetMemorySizeInvalid h = refl
nothing_carried error.PacketTypeDecodeLengthMismatch h = refl
nothing_carried error.PayloadTypeUnknown h = refl
nothing_carried error.ConnectEventUnsupported h = refl
nothing_carried error.ConnectEventDecodeError h = refl
nothing_carried error.DisconnectEventDecodeError h = refl
nothing_carried error.AtRequestEventDecodeError h = refl
nothing_carried error.PacketEncodeTypeUnknown h = refl
nothing_carried error.PacketEncodePayloadSizeInvalid h = refl
nothing_carried (error.AtPacketError a) h = absurd (h a refl)

pub returns-in_default : goal.returns-in_default
returns-in_default c = rw (nothing_carried _ c.in_default.not-AtPacketError) (prints-none _ _)
