-- How long an answer is: at most 475,135 bytes, so that with its line end it takes up 464 KiB or less. A line of 262,144 bytes spells at most
-- 131,072, and the longest answer is that of a walk over those.
use Rattle.std.proofs.Common.{◌≡◌, ℕ, ◌^◌, ◌<◌, ◌≤◌, Bool, true, false, cond, leb, List, [], ◌++◌, length, get_or, refl, arith, length-append, leb-true}
use Rattle.text.specs.Bytes.{bytes, part}
use Rattle.text.specs.Decimal.{decimal}
use Rattle.at.specs.Refusal.{no, number_of, OrRefused, good, refused}
use Rattle.at.specs.Event.{ReadEvent, event_to, event}
use Rattle.at.specs.Line.{read_line}
use Rattle.at.specs.W26.{w26}
use Rattle.at.specs.Walk.{read_either}
use Rattle.edm.specs.Command as command
use Rattle.edm.specs.declared.EdmPacket.{EdmPacket}
use Rattle.edm.specs.declared.EdmPacket.TheVariants as packet
use Rattle.edm.proofs.CommandLaws.{framed, frame-length}
use Rattle.writer.specs.Line.{contents_of, line_of}
use Rattle.writer.specs.Write as write
use Rattle.render.specs.Words.{hex_of, values_line}
use Rattle.render.specs.Refusal.{refused_line, frame_refused_line}
use Rattle.render.specs.Written.{wrote_line}
use Rattle.render.proofs.WordLengths.{refused-room, frame-refused-room, decimal-within, data-place}
use Rattle.render.proofs.LineRoom.{w26-room, w36-room, binary-room}
use Rattle.render.proofs.ResponseRoom.{response-room}
use Rattle.render.proofs.FrameRoom.{frame-room}
use Rattle.render.proofs.WalkRoom.{walk-room}
use Rattle.render.proofs.CaptureRoom.{file-room}
use Rattle.render.proofs.RangeRoom.{scan_room}
use Rattle.render.proofs.WhyRoom.{why_26_room, why_36_room, why-binary-room, why-frame-room}
use Rattle.render.proofs.ExplainedRoom.{explain_frame-room, explain_26_room, explain_36_room, explain_binary-room, explain_response-room}
use Rattle.replay.specs.declared.question.Reader.{Reader}
use Rattle.replay.specs.declared.question.Reader.TheVariants as reader
use Rattle.replay.specs.declared.question.Explained.{Explained}
use Rattle.replay.specs.declared.question.Explained.TheVariants as explained
use Rattle.replay.specs.declared.question.Writer.{Writer}
use Rattle.replay.specs.declared.question.Writer.TheVariants as writer
use Rattle.lines.specs.Hex.{Spelt, spells, no_hex, bytes_in}
use Rattle.replay.specs.Question.{Asked, reads, writes, resends, nothing, asked}
use Rattle.replay.specs.Reply.{explain_reply, read_reply, written_line, whole_of, packet_reply, again_reply, write_reply, sized_reply, too_long, what, of_bytes, reply_to, is_note, short_reply, reply_line, line_reply}
use Rattle.lines.proofs.DecodedLaws.{bytes_of, bytes-spelt}
use Rattle.replay.proofs.AskedRoom.{hex_asked, asked_shorter}
use Rattle.lines.specs.Input.{without_cr}
use Rattle.lines.proofs.InputLaws.{without_shorter}

-- bytes that are explained
explain_room : (x : Explained) (s : List ℕ) → length s ≤ 131072 → length (explain_reply x s) ≤ 475135
explain_room explained.Frame s h = omega (arith, explain_frame-room s h)
explain_room explained.W26 s h = omega (arith, explain_26_room s h)
explain_room explained.W36 s h = omega (arith, explain_36_room s h)
explain_room explained.Binary s h = omega (arith, explain_binary-room s h)
explain_room explained.Response s h = omega (arith, explain_response-room s h)

-- bytes that are read
read_room : (r : Reader) (s : List ℕ) → length s ≤ 131072 → ((i : ℕ) → get_or s i 0 < 256) → length (read_reply r s) ≤ 475135
read_room reader.Frame s h b = omega (arith, frame-room s b)
read_room reader.W26 s h b = omega (arith, w26-room s)
read_room reader.W36 s h b = omega (arith, w36-room s)
read_room reader.Binary s h b = omega (arith, binary-room s)
read_room reader.Walk36 s h b = omega (arith, walk-room s (omega arith))
read_room reader.Response s h b = omega (arith, response-room s)
read_room reader.WhyFrame s h b = omega (arith, why-frame-room s b)
read_room reader.Why26 s h b = omega (arith, why_26_room s)
read_room reader.Why36 s h b = omega (arith, why_36_room s)
read_room reader.WhyBinary s h b = omega (arith, why-binary-room s)
read_room reader.Capture s h b = omega (arith, file-room s b (omega arith))
read_room reader.Scan s h b = omega (arith, scan_room s 56175)
read_room (reader.Explain x) s h b = explain_room x s h

-- bytes that were written
wrote-room : (f : List ℕ) → length f ≤ 131072 → length (wrote_line f (length f)) ≤ 475135
unfolding values_line
wrote-room f h =
    let n = length f in
    let hex = hex_of (part f 0 n) in
    let a = length-append (decimal n ++ bytes " ") hex in
    let b = length-append (decimal n) (bytes " ") in
    let c = length-append hex [] in
    omega (arith, a, b, c, decimal-within 5 n (omega arith), data-place f 0 n [])

-- a frame has a payload of at most 4,093 bytes and six bytes more, whatever the size of the buffer
packet-room : (size : ℕ) (s : List ℕ) (p : EdmPacket) → length (packet_reply size s p) ≤ 475135
packet-room size s p = go (command.to_write size s p) refl
  where
    go : (w : OrRefused (List ℕ)) → command.to_write size s p ≡ w → length (written_line frame_refused_line w) ≤ 475135
    go (good f) e =
        let x = framed size s p f e in
        wrote-room f (rw x.frames (omega (arith, frame-length x.id x.payload, x.short)))
    go (refused n) e = omega (arith, frame-refused-room (number_of n))

-- an event that is written again is no longer than the buffer
again_room : (size : ℕ) (s : List ℕ) (a : OrRefused ReadEvent) → size ≤ 131072 → length (again_reply size s a) ≤ 475135
unfolding write.to_write
again_room size s (good (event_to (event r vs) past)) h =
    let l = line_of r (contents_of s vs) in
    go (write.writable s r vs) l (leb (length l) size) refl
  where
    go : (w : Bool) (l : List ℕ) (k : Bool) → leb (length l) size ≡ k → length (written_line refused_line (cond w (cond k (good l) (refused (no 18))) (refused (no 17)))) ≤ 475135
    go true l true e = wrote-room l (omega (arith, leb-true (length l) size e))
    go true l false e = omega (arith, refused-room 18)
    go false l k e = omega (arith, refused-room 17)
again_room size s (refused n) h = omega (arith, refused-room (number_of n))

write-room : (w : Writer) (size : ℕ) (s : List ℕ) → size ≤ 131072 → length (write_reply w size s) ≤ 475135
write-room (writer.Data c) size s h = packet-room size s (packet.DataCommand (record { 0 = c }) (whole_of s))
write-room writer.Request size s h = packet-room size s (packet.ATRequest (whole_of s))
write-room writer.Resend size s h = packet-room size s packet.ResendConnectEvents
write-room writer.Again26 size s h = again_room size s (read_line w26 0 s) h
write-room writer.Again36 size s h = again_room size s (read_either 0 s) h

sized-room : (w : Writer) (size : ℕ) (s : List ℕ) → length (sized_reply 131072 w size s) ≤ 475135
sized-room w size s = go (leb size 131072) refl
  where
    go : (k : Bool) → leb size 131072 ≡ k → length (cond k (write_reply w size s) too_long) ≤ 475135
    go true e = write-room w size s (leb-true size 131072 e)
    go false e = omega arith

-- a line's number has at most 20 digits
module _ (n : ℕ) (h : n < 10 ^ 20) where
  what-room : length (what n) ≤ 475135
  what-room = omega (arith, decimal-within 19 n h)

  bytes-room : (r : Spelt) (reply : List ℕ → List ℕ) → length (reply (bytes_of r)) ≤ 475135 → length (of_bytes n r reply) ≤ 475135
  bytes-room (spells s) reply k = k
  bytes-room no_hex reply k = what-room

  asked-room : (a : Asked) → length (hex_asked a) ≤ 262144 → length (reply_to n a) ≤ 475135
  asked-room (reads r hex) k =
      let x = bytes-spelt hex in
      bytes-room (bytes_in hex) (read_reply r) (read_room r (bytes_of (bytes_in hex)) (omega (arith, x.0)) x.1)
  asked-room (writes w size hex) k = bytes-room (bytes_in hex) (sized_reply 131072 w size) (sized-room w size (bytes_of (bytes_in hex)))
  asked-room (resends size) k = sized-room writer.Resend size []
  asked-room nothing k = what-room

  short-room : (line : List ℕ) → length line ≤ 262144 → length (short_reply n line) ≤ 475135
  unfolding short_reply
  short-room line k = go (is_note line)
    where
      go : (t : Bool) → length (cond t line (reply_to n (asked line))) ≤ 475135
      go true = omega arith
      go false = asked-room (asked line) (omega (arith, asked_shorter line))

  line_room : (line : List ℕ) → length (reply_line n line) ≤ 475135
  unfolding reply_line
  line_room line = go (leb (length line) 262144) refl
    where
      go : (k : Bool) → leb (length line) 262144 ≡ k → length (cond k (short_reply n (without_cr line)) too_long) ≤ 475135
      go true e = short-room (without_cr line) (omega (arith, leb-true (length line) 262144 e, without_shorter line))
      go false e = omega arith

pub reply-room : (gone : Bool) (n : ℕ) (line : List ℕ) → n < 10 ^ 20 → length (line_reply gone n line) ≤ 475135
unfolding line_reply
reply-room true n line h = omega arith
reply-room false n line h = line_room n h line
