-- Lines of `capture write`, computed from the definitions. Assumes nothing.
use Rattle.std.proofs.Common.{◌≡◌, [], refl}
use Rattle.text.specs.Bytes.{bytes, hex, same, starts_with}
use Rattle.text.specs.Find.{first_of}
use Rattle.text.specs.Number.{digits_from}
use Rattle.lines.specs.Hex.{pairs, bytes_in}
use Rattle.lines.specs.Number.{number_in}
use Rattle.lines.specs.Cut.{cut_at}
use Rattle.capture.specs.declared.line.Fault.TheVariants.{NoTime, NoFrame}
use Rattle.capture.specs.Line.{trimmed, content, stamp_in, says, nothing, wrong, said_in}

-- a record, with a note or without; an empty frame
pub records : (said_in (bytes "17.000020 aa 55 # two bytes\r") ≡ says 17 20 (hex "AA55")) × (said_in (bytes "0.999999 -") ≡ says 0 999999 [])
unfolding said_in content trimmed cut_at first_of starts_with stamp_in number_in digits_from bytes_in pairs same
records = (refl, refl)

-- a note alone, and nothing at all
pub notes : (said_in (bytes "  # note") ≡ nothing) × (said_in [] ≡ nothing)
unfolding said_in content trimmed cut_at first_of starts_with
notes = (refl, refl)

-- five digits; a sign; no point
pub times : (said_in (bytes "1.00002 aa") ≡ wrong NoTime) × (said_in (bytes "+1.000002 aa") ≡ wrong NoTime) × (said_in (bytes "1000002 aa") ≡ wrong NoTime)
unfolding said_in content trimmed cut_at first_of starts_with stamp_in number_in digits_from
times = (refl, refl, refl)

-- half a byte; no frame at all
pub frames : (said_in (bytes "1.000002 aa5") ≡ wrong NoFrame) × (said_in (bytes "1.000002") ≡ wrong NoFrame)
unfolding said_in content trimmed cut_at first_of starts_with stamp_in number_in digits_from bytes_in pairs same
frames = (refl, refl)
