-- What is written reads back, over the definitions: a frame is read as its payload is, so each of the three commands comes back as the packet that says it.
-- Assumes nothing.
use mathlib.Core.Path.{◌≡◌, refl, ap, ◌∙◌}
use mathlib.Core.List.{List, [], ◌∷◌, ◌++◌}
use mathlib.Core.Bool.{true}
use Prim.Native.Nat.{ℕ, ◌+◌, ◌-◌, ◌/◌, ◌%◌, ◌≤◌}
use native.Mathlib.Omega.{arith}
use lib.ListN.{length, drop, length-append}
use lib.Seq.{take_at, get_or_at}
use borrow.Author.Tests.{le-leb, le-ltb, eq-eqb}
use Rattle.text.specs.Bytes.{part}
use Rattle.text.specs.Utf8.{utf8}
use Rattle.text.proofs.Utf8Joined.{utf8_append, utf8-plain, utf8_nil}
use Rattle.at.specs.Event.{num, place}
use Rattle.at.specs.declared.Text.{Text}
use Rattle.at.specs.Refusal.{good}
use Rattle.edm.specs.Packet.{identifiers, carried, data_packet, at_request, resend_packet}
use Rattle.edm.specs.Payload.{byte, word, read_payload, read_data_event, read_request}
use Rattle.edm.specs.Frame.{delimited, length_field, payload, read_frame}
use Rattle.edm.specs.Command.{frame, command, request_of, to_write}
use Rattle.edm.specs.declared.Channel.{Channel}
use Rattle.edm.specs.declared.EdmPacket.TheVariants as is
use Rattle.edm.proofs.CommandLaws.{framed, in_source_lem, is_request, part_length}

-- a frame whose checks pass
reads : (s t : List ℕ) (id : ℕ) → 6 ≤ length s → delimited s ≡ true → payload s ≡ t → length_field s ≡ length t + 2 → word s 3 ≡ id
    → read_frame s ≡ read_payload (carried identifiers id) 5 t
unfolding read_frame
reads s t id h d p l w = rw (d, le-ltb (length s) 6 h, p, l, eq-eqb (length t + 2) (length t + 2) refl, w)

marked : (s p : List ℕ) → s ≡ p ++ 0x55 ∷ [] → 2 ≤ length s → byte s 0 ≡ 0xAA → delimited s ≡ true
marked s p e h a =
    let l = ap length e ∙ length-append p (0x55 ∷ []) in
    let z = ap (λ (l : List ℕ). byte l (length s - 1)) e ∙ get_or_at p 0x55 [] 0 (length s - 1) (omega arith) in
    rw (le-leb 2 (length s) h, a, z)

-- a frame is read as its payload is
module _ (id : ℕ) (t : List ℕ) where
  -- all but the last byte
  abbrev front : List ℕ
  front = 0xAA ∷ (length t + 2) / 256 ∷ (length t + 2) % 256 ∷ id / 256 ∷ id % 256 ∷ t

  pub read_frame_lem : length t ≤ 4093 → read_frame (frame id t) ≡ read_payload (carried identifiers id) 5 t
  unfolding frame
  read_frame_lem h =
      let s = front ++ 0x55 ∷ [] in
      let l = length-append front (0x55 ∷ []) in
      let p = ap (drop 5) (take_at front (0x55 ∷ []) (length s - 1) (omega arith)) in
      reads s t id (omega arith) (marked s front refl (omega arith) refl) p (omega arith) (omega arith)

-- the three commands
pub read_data_lem : (c : ℕ) (d : List ℕ) → length d ≤ 4092 → read_frame (frame 0x36 (c ∷ d)) ≡ good (data_packet (num c ∷ place 6 (length d) ∷ []))
unfolding identifiers carried read_data_event
read_data_lem c d h =
    let l : length (c ∷ d) - 1 ≡ length d = omega arith in
    read_frame_lem 0x36 (c ∷ d) (omega arith) ∙ rw (le-ltb (length (c ∷ d)) 1 (omega arith), l)

pub read_request_lem : (t : List ℕ) → length t ≤ 4092 → utf8 t ≡ true → read_frame (frame 0x44 (t ++ 13 ∷ [])) ≡ good (at_request (place 5 (length t + 1)))
unfolding identifiers carried read_request
read_request_lem t h u =
    let l = length-append t (13 ∷ []) in
    let v = utf8_append t (13 ∷ []) u (utf8-plain 13 [] (omega arith) utf8_nil) in
    read_frame_lem 0x44 (t ++ 13 ∷ []) (omega arith) ∙ rw (v, l)

pub read_resend : read_frame (frame 0x56 []) ≡ good resend_packet
unfolding identifiers carried
read_resend = read_frame_lem 0x56 [] (omega arith)

-- and the same of the bytes that are written for a packet: what stands at the place that is read is what was given, a request's with its CR
module _ (room : ℕ) (src f : List ℕ) where
  pub data_read_back : (c : Channel) (d : Text) → to_write room src (is.DataCommand c d) ≡ good f
      → (read_frame f ≡ good (data_packet (num c.0 ∷ place 6 d.len ∷ []))) × (part f 6 d.len ≡ part src d.start d.len)
  unfolding frame part
  data_read_back c d e =
      let w = framed room src (is.DataCommand c d) f e in
      let s = in_source_lem src d.start d.len (λ t. good (command 0x36 (c.0 ∷ t))) w.id w.payload w.commands in
      let t = part src d.start d.len in
      let l = part_length src d.start d.len s.0 in
      let g : f ≡ frame 0x36 (c.0 ∷ t) = cc in
      let h : w.payload ≡ c.0 ∷ t = cc in
      let m = ap length h in
      let r = w.short in
      (rw g (read_data_lem c.0 t (omega arith) ∙ rw l), rw g (take_at t (0x55 ∷ []) d.len l))

  pub request_read_back : (t : Text) → to_write room src (is.ATRequest t) ≡ good f
      → (read_frame f ≡ good (at_request (place 5 (t.len + 1)))) × (part f 5 (t.len + 1) ≡ part src t.start t.len ++ 13 ∷ [])
  unfolding frame part
  request_read_back t e =
      let w = framed room src (is.ATRequest t) f e in
      let s = in_source_lem src t.start t.len request_of w.id w.payload w.commands in
      let u = part src t.start t.len in
      let q = is_request u w.id w.payload s.1 in
      let l = part_length src t.start t.len s.0 in
      let n = length-append u (13 ∷ []) in
      let g : f ≡ frame 0x44 (u ++ 13 ∷ []) = cc in
      let m = ap length q.2 in
      let r = w.short in
      (rw g (read_request_lem u (omega arith) q.0 ∙ rw l), rw g (take_at (u ++ 13 ∷ []) (0x55 ∷ []) (t.len + 1) (omega arith)))

  pub resend_read_back : to_write room src is.ResendConnectEvents ≡ good f → read_frame f ≡ good resend_packet
  resend_read_back e =
      let w = framed room src is.ResendConnectEvents f e in
      let g : f ≡ frame 0x56 [] = cc in
      rw g read_resend
