use Prim.Native.Nat.{ℕ}
use mathlib.Core.Path.{◌≡◌, refl}
use mathlib.Core.List.{[]}
use Rattle.at.specs.Refusal.{refusal_of}
use Rattle.at.specs.declared.FieldError.{FieldError}
use Rattle.at.specs.declared.AtPacketError.{AtPacketError}
use Rattle.at.specs.declared.AtPacketError.TheVariants as error
use Rattle.render.specs.Why.{carried_line}
use Rattle.render.proofs.PrintLaws.{prints-none}
use Rattle.render.proofs.why.of_at.Goals as goal

-- `why::of_at` meets its contract: only two refusals carry something. Assumes nothing.
nothing_carried : (e : AtPacketError)
    → ((i : ℕ) → e ≡ error.TypeDecodeParameterMissing i → ⊥)
    → ((i : ℕ) (why : FieldError) → e ≡ error.TypeDecodeParameterDataTypeInvalid i why → ⊥)
    → carried_line (refusal_of e) ≡ []
nothing_carried error.Utf8DecodeFailed m d = refl
nothing_carried error.FramingDecodeFailed m d = refl
nothing_carried error.TypeDecodeUnsupported m d = refl
nothing_carried (error.TypeDecodeParameterMissing i) m d = absurd (m i refl)
nothing_carried (error.TypeDecodeParameterDataTypeInvalid i why) m d = absurd (d i why refl)
nothing_carried error.EventUnknown m d = refl

pub returns-in_default : goal.returns-in_default
returns-in_default c =
    let rest = c.in_default in
    rw (nothing_carried _ rest.not-TypeDecodeParameterMissing rest.not-TypeDecodeParameterDataTypeInvalid) (prints-none _ _)
