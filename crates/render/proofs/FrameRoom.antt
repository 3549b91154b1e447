-- How long the line of a frame is, whose numbers are bytes.
use Prim.Native.Nat.{ℕ, zero, suc, ◌+◌, ◌*◌, ◌-◌, ◌≤◌, ◌<◌}
use mathlib.Core.List.{List, [], ◌∷◌, ◌++◌}
use mathlib.Core.Bool.{Bool, true, false, cond}
use native.Mathlib.Omega.{arith}
use lib.Dec.{eqb, ltb}
use lib.ListN.{length, take, drop, get_or, length-append, length-take, length-drop}
use lib.Seq.{get_or-drop}
use Rattle.text.specs.Bytes.{bytes}
use Rattle.text.specs.Utf8.{utf8}
use Rattle.at.specs.Refusal.{no, number_of, OrRefused, good, refused}
use Rattle.at.specs.Event.{num, place, ReadEvent, event_to}
use Rattle.at.specs.Line.{read_line}
use Rattle.at.specs.Response.{Response, read_response}
use Rattle.at.specs.W26.{w26}
use Rattle.edm.specs.Packet.{Carries, connect, disconnect, data_event, request, response, at_event, resend, start, unknown, identifiers, carried, connect_event, disconnect_event, data_packet, at_request}
use Rattle.edm.specs.Payload.{byte, word, read_connect, read_disconnect, read_data_event, read_request, of_response, of_event, read_payload}
use Rattle.edm.specs.Frame.{delimited, length_field, payload, read_frame}
use Rattle.render.specs.Words.{values_line}
use Rattle.render.specs.Event.{cases26, answer_line}
use Rattle.render.specs.Response.{response_answer_line}
use Rattle.render.specs.Frame.{frame_line}
use Rattle.render.proofs.WordLengths.{frame-refused-room, data-none, data-place, data-number}
use Rattle.render.proofs.RowTests.{cheap_26}
use Rattle.render.proofs.LineRoom.{spans_26, answer-room}
use Rattle.render.proofs.ResponseRoom.{response-room-at}

-- every number is a byte, and so in a part
abbrev Bytes : List ℕ → Type 0
Bytes s = (i : ℕ) → get_or s i 0 < 256

bytes_drop : (n : ℕ) (s : List ℕ) → Bytes s → Bytes (drop n s)
bytes_drop n s h i = rw (get_or-drop n s i 0) (h (n + i))

pub bytes_take : (n : ℕ) (s : List ℕ) → Bytes s → Bytes (take n s)
bytes_take zero s h i = omega arith
bytes_take (suc n) [] h i = h i
bytes_take (suc n) (b ∷ s) h zero = h zero
bytes_take (suc n) (b ∷ s) h (suc i) = bytes_take n s (λ j. h (suc j)) i

-- what the AT layer answers, in a frame
module _ (src : List ℕ) where
  of_response_lem : (a : OrRefused Response) → length (frame_line src (of_response a)) ≤ length (response_answer_line src a) + 57
  of_response_lem (good r) = omega arith
  of_response_lem (refused n) = omega (arith, frame-refused-room (number_of n))

  of_event_lem : (a : OrRefused ReadEvent) → length (frame_line src (of_event a)) ≤ length (answer_line cases26 src a) + 57
  of_event_lem (good (event_to e q)) = omega arith
  of_event_lem (refused n) = omega (arith, frame-refused-room (number_of n))

-- the payload t, at the place p
module _ (src : List ℕ) (p : ℕ) (t : List ℕ) (h : Bytes t) where
  connect_room : length (frame_line src (read_connect p t)) ≤ 2 * length t + 150
  unfolding read_connect
  connect_room = go (ltb (length t) 2) (eqb (byte t 1) 2) (eqb (length t) 15)
    where
      go : (a b c : Bool)
          → length (frame_line src (cond a (refused (no 2)) (cond b (cond c (good (connect_event (num (byte t 0) ∷ num (byte t 2) ∷ place (p + 3) 4 ∷ num (word t 7) ∷ place (p + 9) 4 ∷ num (word t 13) ∷ []))) (refused (no 6))) (refused (no 5)))))
          ≤ 2 * length t + 150
      go true b c = omega (arith, frame-refused-room 2)
      go false false c = omega (arith, frame-refused-room 5)
      go false true false = omega (arith, frame-refused-room 6)
      go false true true =
          let first = values_line [] src (num (byte t 0) ∷ []) in
          let others = values_line [] src (num (byte t 2) ∷ place (p + 3) 4 ∷ num (word t 7) ∷ place (p + 9) 4 ∷ num (word t 13) ∷ []) in
          let a = length-append (bytes "ConnectEvent" ++ first) (bytes " ConnectEventIPv4" ++ others) in
          let b = data-number src 2 (byte t 0) [] (omega (arith, h 0)) in
          let c = data-number src 2 (byte t 2) (place (p + 3) 4 ∷ num (word t 7) ∷ place (p + 9) 4 ∷ num (word t 13) ∷ []) (omega (arith, h 2)) in
          let d = data-place src (p + 3) 4 (num (word t 7) ∷ place (p + 9) 4 ∷ num (word t 13) ∷ []) in
          let e = data-number src 4 (word t 7) (place (p + 9) 4 ∷ num (word t 13) ∷ []) (omega (arith, h 7, h 8)) in
          let f = data-place src (p + 9) 4 (num (word t 13) ∷ []) in
          let g = data-number src 4 (word t 13) [] (omega (arith, h 13, h 14)) in
          omega (arith, a, b, c, d, e, f, g, data-none src)

  disconnect_room : length (frame_line src (read_disconnect p t)) ≤ 2 * length t + 150
  unfolding read_disconnect
  disconnect_room = go (eqb (length t) 1)
    where
      go : (k : Bool) → length (frame_line src (cond k (good (disconnect_event (num (byte t 0) ∷ []))) (refused (no 7)))) ≤ 2 * length t + 150
      go true = omega (arith, data-number src 2 (byte t 0) [] (omega (arith, h 0)), data-none src)
      go false = omega (arith, frame-refused-room 7)

  data-room : length (frame_line src (read_data_event p t)) ≤ 2 * length t + 150
  unfolding read_data_event
  data-room = go (ltb (length t) 1)
    where
      go : (k : Bool) → length (frame_line src (cond k (refused (no 2)) (good (data_packet (num (byte t 0) ∷ place (p + 1) (length t - 1) ∷ []))))) ≤ 2 * length t + 150
      go true = omega (arith, frame-refused-room 2)
      go false =
          let d = place (p + 1) (length t - 1) ∷ [] in
          omega (arith, data-number src 2 (byte t 0) d (omega (arith, h 0)), data-place src (p + 1) (length t - 1) [], data-none src)

  request_room : length (frame_line src (read_request p t)) ≤ 2 * length t + 150
  unfolding read_request
  request_room = go (utf8 t)
    where
      go : (k : Bool) → length (frame_line src (cond k (good (at_request (place p (length t)))) (refused (no 8)))) ≤ 2 * length t + 150
      go true = omega (arith, data-place src p (length t) [], data-none src)
      go false = omega (arith, frame-refused-room 8)

  payload-room : (c : Carries) → length (frame_line src (read_payload c p t)) ≤ 2 * length t + 150
  payload-room connect = connect_room
  payload-room disconnect = disconnect_room
  payload-room data_event = data-room
  payload-room request = request_room
  payload-room response = omega (arith, of_response_lem src (read_response p t), response-room-at src p t)
  payload-room at_event = omega (arith, of_event_lem src (read_line w26 p t), answer-room cases26 w26 cheap_26 spans_26 src p t)
  payload-room resend = omega arith
  payload-room start = omega arith
  payload-room unknown = omega (arith, frame-refused-room 4)

pub frame-room : (s : List ℕ) → ((i : ℕ) → get_or s i 0 < 256) → length (frame_line s (read_frame s)) ≤ 2 * length s + 150
unfolding read_frame
frame-room s h = go (delimited s) (ltb (length s) 6) (eqb (length_field s) (length (payload s) + 2))
  where
    go : (a b c : Bool)
        → length (frame_line s (cond a (cond b (refused (no 2)) (cond c (read_payload (carried identifiers (word s 3)) 5 (payload s)) (refused (no 3)))) (refused (no 1)))) ≤ 2 * length s + 150
    go true true c = omega (arith, frame-refused-room 2)
    go true false true =
        let t = take (length s - 1) s in
        let r = payload-room s 5 (payload s) (bytes_drop 5 t (bytes_take (length s - 1) s h)) (carried identifiers (word s 3)) in
        omega (arith, r, length-drop 5 t, length-take (length s - 1) s)
    go true false false = omega (arith, frame-refused-room 3)
    go false b c = omega (arith, frame-refused-room 1)
