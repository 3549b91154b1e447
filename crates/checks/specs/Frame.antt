-- The checks of an EDM frame, in 01's order: 1, 2, 3, identifier (4), then those of what the identifier carries.
use Rattle.std.specs.Prelude.{ℕ, ◌+◌, ◌-◌, List, [], ◌∷◌, Bool, true, false, eqb, leb, length}
use Rattle.text.specs.Utf8.{utf8, valid_up_to}
use Rattle.at.specs.Refusal.{no}
use Rattle.at.specs.W26.{w26}
use Rattle.edm.specs.Packet.{Carries, connect, disconnect, data_event, request, response, at_event, resend, start, unknown, identifiers, carried}
use Rattle.edm.specs.Payload.{byte, word}
use Rattle.edm.specs.Frame.{length_field, payload}
use Rattle.checks.specs.Check.{Check, ◌needs◌else◌at◌}
use Rattle.checks.specs.Line.{line_checks}
use Rattle.checks.specs.Response.{response_checks}
use Rattle.checks.specs.declared.CheckName.TheVariants.{FrameOfTwo, StartByte, EndByte, FrameOfSix, FrameLength, Identifier, ConnectOfTwo, ConnectType, ConnectSize, DisconnectSize, DataChannel, RequestUtf8}

-- the payload t, at the place p; resend and start ignore it, and an identifier that is not listed has been refused
abbrev pub payload_checks : Carries → ℕ → List ℕ → List Check
payload_checks connect p t =
    (ConnectOfTwo needs leb 2 (length t) else no 2 at p + length t)
    ∷ (ConnectType needs eqb (byte t 1) 0x02 else no 5 at p + 1)
    ∷ (ConnectSize needs eqb (length t) 15 else no 6 at p + length t)
    ∷ []
payload_checks disconnect p t = (DisconnectSize needs eqb (length t) 1 else no 7 at p + length t) ∷ []
payload_checks data_event p t = (DataChannel needs leb 1 (length t) else no 2 at p + length t) ∷ []
payload_checks request p t = (RequestUtf8 needs utf8 t else no 8 at p + valid_up_to t) ∷ []
payload_checks response p t = response_checks p t
payload_checks at_event p t = line_checks w26 p t
payload_checks resend p t = []
payload_checks start p t = []
payload_checks unknown p t = []

abbrev pub is_known : Carries → Bool
is_known unknown = false
is_known connect = true
is_known disconnect = true
is_known data_event = true
is_known request = true
is_known response = true
is_known at_event = true
is_known resend = true
is_known start = true

-- what the identifier of a frame carries
abbrev pub carried_by : List ℕ → Carries
carried_by s = carried identifiers (word s 3)

unfoldable pub frame_checks : List ℕ → List Check
frame_checks s =
    (FrameOfTwo needs leb 2 (length s) else no 1 at length s)
    ∷ (StartByte needs eqb (byte s 0) 0xAA else no 1 at 0)
    ∷ (EndByte needs eqb (byte s (length s - 1)) 0x55 else no 1 at length s - 1)
    ∷ (FrameOfSix needs leb 6 (length s) else no 2 at length s)
    ∷ (FrameLength needs eqb (length_field s) (length (payload s) + 2) else no 3 at 1)
    ∷ (Identifier needs is_known (carried_by s) else no 4 at 3)
    ∷ payload_checks (carried_by s) 5 (payload s)
