-- A refusal says which error of the frame layer it is: no two of them have one number, and what is carried is kept.
use Prim.Native.Nat.{ℕ}
use mathlib.Core.Path.{◌≡◌, refl}
use mathlib.Core.List.{List, [], ◌∷◌}
use mathlib.Core.Bool.{cond}
use lib.Dec.{eqb, ltb}
use Rattle.text.proofs.OneOutcome.{distinguished}
use Rattle.at.specs.Refusal.{Refusal, no, missing, invalid, number_of}
use Rattle.at.specs.declared.AtPacketError.TheVariants as at
use Rattle.at.proofs.Refusals as events
use Rattle.edm.specs.Refusal.{refusal_of}
use Rattle.edm.specs.declared.EdmPacketError.{EdmPacketError}
use Rattle.edm.specs.declared.EdmPacketError.TheVariants as error

-- the refusal with a number: the first of these that has it
abbrev first_with : ℕ → List EdmPacketError → EdmPacketError
first_with n [] = error.PayloadTypeUnknown
first_with n (e ∷ es) = cond (eqb n (number_of (refusal_of e))) e (first_with n es)

-- those of the AT layer have the numbers over 10
abbrev pub error_of : Refusal → EdmPacketError
error_of (no n) =
    cond (ltb 10 n) (error.AtPacketError (events.error_of (no n)))
    (first_with n
    (error.PacketDecodeFramingInvalid
    ∷ error.PacketDecodeTargetMemorySizeInvalid
    ∷ error.PacketTypeDecodeLengthMismatch
    ∷ error.ConnectEventUnsupported
    ∷ error.ConnectEventDecodeError
    ∷ error.DisconnectEventDecodeError
    ∷ error.AtRequestEventDecodeError
    ∷ error.PacketEncodeTypeUnknown
    ∷ error.PacketEncodePayloadSizeInvalid
    ∷ []))
error_of (missing field) = error.AtPacketError (events.error_of (missing field))
error_of (invalid field why) = error.AtPacketError (events.error_of (invalid field why))

pub error_back : (e : EdmPacketError) → error_of (refusal_of e) ≡ e
error_back error.PacketDecodeFramingInvalid = refl
error_back error.PacketDecodeTargetMemorySizeInvalid = refl
error_back error.PacketTypeDecodeLengthMismatch = refl
error_back error.PayloadTypeUnknown = refl
error_back error.ConnectEventUnsupported = refl
error_back error.ConnectEventDecodeError = refl
error_back error.DisconnectEventDecodeError = refl
error_back error.AtRequestEventDecodeError = refl
error_back error.PacketEncodeTypeUnknown = refl
error_back error.PacketEncodePayloadSizeInvalid = refl
error_back (error.AtPacketError at.Utf8DecodeFailed) = refl
error_back (error.AtPacketError at.FramingDecodeFailed) = refl
error_back (error.AtPacketError at.TypeDecodeUnsupported) = refl
error_back (error.AtPacketError (at.TypeDecodeParameterMissing field)) = refl
error_back (error.AtPacketError (at.TypeDecodeParameterDataTypeInvalid field why)) = refl
error_back (error.AtPacketError at.EventUnknown) = refl

-- no two refusals of the code are one
pub refusal_injective : (d e : EdmPacketError) → refusal_of d ≡ refusal_of e → d ≡ e
refusal_injective = distinguished refusal_of error_of error_back
