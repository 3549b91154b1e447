-- Lines and what they say, computed from the definitions.
use Rattle.std.proofs.Common.{◌≡◌, [], refl}
use Rattle.text.specs.Bytes.{bytes, hex, same, starts_with, every, part}
use Rattle.text.specs.Decimal.{digits_of, decimal}
use Rattle.text.specs.Find.{first_of}
use Rattle.text.specs.Number.{digits_from}
use Rattle.edm.specs.Packet.{identifiers, carried}
use Rattle.edm.specs.Payload.{read_data_event}
use Rattle.edm.specs.Frame.{read_frame}
use Rattle.render.specs.Words.{pairs_of, number_word, values_line}
use Rattle.replay.specs.declared.question.Writer.TheVariants as writer
use Rattle.lines.specs.Hex.{spells, no_hex, pairs, bytes_in}
use Rattle.replay.specs.Question.{writes, resends, nothing, words, kind_of, number_then, asked}
use Rattle.lines.specs.Cut.{cut_at}
use Rattle.lines.specs.Number.{number_in}
use Rattle.lines.specs.Input.{without_cr}
use Rattle.replay.specs.Reply.{is_note, short_reply, reply_line}

-- digits of either case, with or without spaces between bytes
pub pasted : (bytes_in (bytes "AA 00 02") ≡ spells (hex "AA 00 02")) × (bytes_in (bytes "aA0002") ≡ spells (hex "AA 00 02")) × (bytes_in (bytes "-") ≡ spells [])
unfolding bytes_in same pairs
pasted = (refl, refl, refl)

-- a space within a byte, one digit, no digit at all
pub no_bytes : (bytes_in (bytes "A A00") ≡ no_hex) × (bytes_in (bytes "AA 0") ≡ no_hex) × (bytes_in (bytes " ") ≡ no_hex)
unfolding bytes_in same pairs
no_bytes = (refl, refl, refl)

pub questions : (asked (bytes "data 16 255 41") ≡ writes (writer.Data 255) 16 (bytes "41")) × (asked (bytes "resend 6") ≡ resends 6) × (asked (bytes "data 16 256 41") ≡ nothing)
unfolding asked cut_at first_of starts_with words kind_of same number_then number_in digits_from
questions = (refl, refl, refl)

-- a CR at the end, a line that is no question, a heading
pub answers : (reply_line 1 (bytes "frame AA 00 04 00 36 03 41 55\r") ≡ bytes "DataEvent 3 41") × (reply_line 7 (bytes "frame aa5") ≡ bytes "what? 7") × (reply_line 8 (bytes "# frame") ≡ bytes "# frame")
unfolding reply_line without_cr short_reply is_note every asked cut_at first_of starts_with words kind_of same bytes_in pairs read_frame identifiers carried read_data_event values_line number_word decimal digits_of pairs_of part
answers = (refl, refl, refl)
