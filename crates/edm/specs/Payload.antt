-- The payloads of a frame, each at a place p.
use Rattle.std.specs.Prelude.{ℕ, ◌+◌, ◌*◌, ◌-◌, List, [], ◌∷◌, cond, eqb, ltb, length, get_or}
use Rattle.text.specs.Utf8.{utf8}
use Rattle.at.specs.Refusal.{OrRefused, good, refused, no}
use Rattle.at.specs.Event.{num, place, ReadEvent, event_to}
use Rattle.at.specs.Line.{read_line}
use Rattle.at.specs.Response.{Response, read_response}
use Rattle.at.specs.W26.{w26}
use Rattle.edm.specs.Packet.{Carries, connect, disconnect, data_event, request, response, at_event, resend, start, unknown, connect_event, disconnect_event, data_packet, at_request, at_response, at_packet, resend_packet, start_packet, Packet}

-- the byte at a place, and the number that two bytes say, high first
abbrev pub byte : List ℕ → ℕ → ℕ
byte s i = get_or s i 0

abbrev pub word : List ℕ → ℕ → ℕ
word s i = byte s i * 256 + byte s (i + 1)

-- channel, type, 13 bytes: protocol, 4 address, 2 port, 4 address, 2 port; the remote end first. t stands at the place p.
-- Under 2 bytes is 2, another type than 02 is 5, another length is 6
unfoldable pub read_connect : ℕ → List ℕ → OrRefused Packet
read_connect p t =
    cond (ltb (length t) 2) (refused (no 2))
    (cond (eqb (byte t 1) 2)
    (cond (eqb (length t) 15)
    (good (connect_event (num (byte t 0) ∷ num (byte t 2) ∷ place (p + 3) 4 ∷ num (word t 7) ∷ place (p + 9) 4 ∷ num (word t 13) ∷ [])))
    (refused (no 6)))
    (refused (no 5)))

-- exactly a channel (7)
unfoldable pub read_disconnect : ℕ → List ℕ → OrRefused Packet
read_disconnect p t = cond (eqb (length t) 1) (good (disconnect_event (num (byte t 0) ∷ []))) (refused (no 7))

-- a channel (2), and the data after it
unfoldable pub read_data_event : ℕ → List ℕ → OrRefused Packet
read_data_event p t = cond (ltb (length t) 1) (refused (no 2)) (good (data_packet (num (byte t 0) ∷ place (p + 1) (length t - 1) ∷ [])))

-- UTF-8 (8), with the CR that was written after it
unfoldable pub read_request : ℕ → List ℕ → OrRefused Packet
read_request p t = cond (utf8 t) (good (at_request (place p (length t)))) (refused (no 8))

-- a refusal of the AT layer is the frame's
abbrev pub of_response : OrRefused Response → OrRefused Packet
of_response (good r) = good (at_response r)
of_response (refused n) = refused n

-- and a frame holds one event, so the place just past it is not reported
abbrev pub of_event : OrRefused ReadEvent → OrRefused Packet
of_event (good (event_to e past)) = good (at_packet e)
of_event (refused n) = refused n

-- the payload t, at the place p, of an identifier that carries this; the last two ignore it
abbrev pub read_payload : Carries → ℕ → List ℕ → OrRefused Packet
read_payload connect p t = read_connect p t
read_payload disconnect p t = read_disconnect p t
read_payload data_event p t = read_data_event p t
read_payload request p t = read_request p t
read_payload response p t = of_response (read_response p t)
read_payload at_event p t = of_event (read_line w26 p t)
read_payload resend p t = good resend_packet
read_payload start p t = good start_packet
read_payload unknown p t = refused (no 4)
