-- The line that answers a line.
use Rattle.std.specs.Prelude.{ℕ, Bool, cond, ◌||◌, List, [], ◌++◌, length, ◌==◌, nat_le}
use Rattle.text.specs.Bytes.{bytes, starts_with, every}
use Rattle.text.specs.Decimal.{decimal}
use Rattle.at.specs.declared.Text.{Text}
use Rattle.at.specs.Refusal.{number_of, OrRefused, good, refused}
use Rattle.at.specs.Event.{Event, ReadEvent, event_to}
use Rattle.at.specs.Line.{read_line}
use Rattle.at.specs.Binary.{try_rows}
use Rattle.at.specs.Response.{read_response}
use Rattle.at.specs.W26.{w26}
use Rattle.at.specs.W36.{w36, binary_table}
use Rattle.at.specs.Walk.{read_either, walk}
use Rattle.edm.specs.Frame.{read_frame}
use Rattle.edm.specs.Command as command
use Rattle.edm.specs.declared.EdmPacket.{EdmPacket}
use Rattle.edm.specs.declared.EdmPacket.TheVariants as packet
use Rattle.writer.specs.Write as write
use Rattle.pcap.specs.File.{read_file}
use Rattle.scan.specs.Scan.{scanned}
use Rattle.checks.specs.Line.{line_checks}
use Rattle.checks.specs.Frame.{frame_checks}
use Rattle.checks.specs.Binary.{binary_checks}
use Rattle.checks.specs.Response.{response_checks}
use Rattle.checks.specs.Part.{Part, response_shape, line_shape, binary_shape, parts_by, frame_parts}
use Rattle.render.specs.Event.{cases26, cases36}
use Rattle.render.specs.Event as render
use Rattle.render.specs.Refusal.{refused_line, frame_refused_line}
use Rattle.render.specs.Response.{response_answer_line}
use Rattle.render.specs.Frame.{frame_line}
use Rattle.render.specs.Walk.{tried_line, walk_line}
use Rattle.render.specs.Why.{why_line, why_tried_line, why_frame_line}
use Rattle.render.specs.Written.{wrote_line}
use Rattle.render.specs.Capture.{run_line}
use Rattle.render.specs.Range.{scan_line}
use Rattle.render.specs.Explained.{explains_line, explains_binary_line}
use Rattle.replay.specs.declared.question.Reader.{Reader}
use Rattle.replay.specs.declared.question.Reader.TheVariants as reader
use Rattle.replay.specs.declared.question.Explained.{Explained}
use Rattle.replay.specs.declared.question.Explained.TheVariants as explained
use Rattle.replay.specs.declared.question.Writer.{Writer}
use Rattle.replay.specs.declared.question.Writer.TheVariants as writer
use Rattle.lines.specs.Hex.{Spelt, spells, no_hex, bytes_in}
use Rattle.lines.specs.Input.{without_cr}
use Rattle.replay.specs.Question.{Asked, reads, writes, resends, nothing, asked}

-- the fields of an event that was read from the line s
abbrev pub line_parts : List ℕ → ReadEvent → List Part
line_parts s e = parts_by (line_shape (length s) e) s 0

-- the bytes s, explained
abbrev pub explain_reply : Explained → List ℕ → List ℕ
explain_reply explained.Frame s = explains_line (frame_checks s) (read_frame s) (frame_parts s)
explain_reply explained.W26 s = explains_line (line_checks w26 0 s) (read_line w26 0 s) (line_parts s)
explain_reply explained.W36 s = explains_line (line_checks w36 0 s) (read_line w36 0 s) (line_parts s)
explain_reply explained.Binary s = explains_binary_line (binary_checks binary_table 0 s) (try_rows binary_table 0 s) (λ e. parts_by (binary_shape (length s) e) s 0)
explain_reply explained.Response s = explains_line (response_checks 0 s) (read_response 0 s) (λ a. parts_by (response_shape 0 a) s 0)

-- the bytes s, read. A list of 56,175 numbers has room for the ranges of any dump that is not too long
abbrev pub read_reply : Reader → List ℕ → List ℕ
read_reply reader.Frame s = frame_line s (read_frame s)
read_reply reader.W26 s = render.answer_line cases26 s (read_line w26 0 s)
read_reply reader.W36 s = render.answer_line cases36 s (read_line w36 0 s)
read_reply reader.Binary s = tried_line s (try_rows binary_table 0 s)
read_reply reader.Walk36 s = walk_line s (walk s)
read_reply reader.Response s = response_answer_line s (read_response 0 s)
read_reply reader.WhyFrame s = why_frame_line s (read_frame s)
read_reply reader.Why26 s = why_line cases26 s (read_line w26 0 s)
read_reply reader.Why36 s = why_line cases36 s (read_line w36 0 s)
read_reply reader.WhyBinary s = why_tried_line s (try_rows binary_table 0 s)
read_reply reader.Capture s = run_line (read_file s)
read_reply reader.Scan s = scan_line (scanned s 56175)
read_reply (reader.Explain x) s = explain_reply x s

-- what was written, or the refusal, whose line is `refusal`
abbrev pub written_line : (ℕ → List ℕ) → OrRefused (List ℕ) → List ℕ
written_line refusal (good w) = wrote_line w (length w)
written_line refusal (refused n) = refusal (number_of n)

-- the place of all of the bytes s
abbrev pub whole_of : List ℕ → Text
whole_of s = record { start = 0; len = length s }

abbrev pub packet_reply : ℕ → List ℕ → EdmPacket → List ℕ
packet_reply size s p = written_line frame_refused_line (command.to_write size s p)

abbrev pub event_reply : ℕ → List ℕ → Event → List ℕ
event_reply size s e = written_line refused_line (write.to_write size s e)

-- an event that was read from s, written again
abbrev pub again_reply : ℕ → List ℕ → OrRefused ReadEvent → List ℕ
again_reply size s (good (event_to e past)) = event_reply size s e
again_reply size s (refused n) = refused_line (number_of n)

-- the bytes s, written into a buffer of a size: a command made of them, or the event that they hold
abbrev pub write_reply : Writer → ℕ → List ℕ → List ℕ
write_reply (writer.Data channel) size s = packet_reply size s (packet.DataCommand (record { 0 = channel }) (whole_of s))
write_reply writer.Request size s = packet_reply size s (packet.ATRequest (whole_of s))
write_reply writer.Resend size s = packet_reply size s packet.ResendConnectEvents
write_reply writer.Again26 size s = again_reply size s (read_line w26 0 s)
write_reply writer.Again36 size s = again_reply size s (read_either 0 s)

abbrev pub too_long : List ℕ
too_long = bytes "too long"

-- a buffer of more than `most` bytes is too long
abbrev pub sized_reply : ℕ → Writer → ℕ → List ℕ → List ℕ
sized_reply most w size s = cond (nat_le size most) (write_reply w size s) too_long

-- the line with this number is no question
abbrev pub what : ℕ → List ℕ
what number = bytes "what? " ++ decimal number

abbrev pub of_bytes : ℕ → Spelt → (List ℕ → List ℕ) → List ℕ
of_bytes number (spells s) reply = reply s
of_bytes number no_hex reply = what number

abbrev pub reply_to : ℕ → Asked → List ℕ
reply_to number (reads r hex) = of_bytes number (bytes_in hex) (read_reply r)
reply_to number (writes w size hex) = of_bytes number (bytes_in hex) (sized_reply 131072 w size)
reply_to number (resends size) = sized_reply 131072 writer.Resend size []
reply_to number nothing = what number

-- a line that is passed on as it is: a heading, or nothing but spaces (32) and tabs (9)
unfoldable pub is_note : List ℕ → Bool
is_note line = starts_with line (bytes "#") || every (λ b. (b == 32) || b == 9) line

unfoldable pub short_reply : ℕ → List ℕ → List ℕ
short_reply number line = cond (is_note line) line (reply_to number (asked line))

-- the answer to the line with this number
unfoldable pub reply_line : ℕ → List ℕ → List ℕ
reply_line number line = cond (nat_le (length line) 262144) (short_reply number (without_cr line)) too_long

-- where the line was too long to keep, its bytes are gone when its end is read
unfoldable pub line_reply : Bool → ℕ → List ℕ → List ℕ
line_reply gone number line = cond gone too_long (reply_line number line)

-- the answer as it is written, with its line end
abbrev pub answer_line : Bool → ℕ → List ℕ → List ℕ
answer_line gone number line = line_reply gone number line ++ bytes "\n"
