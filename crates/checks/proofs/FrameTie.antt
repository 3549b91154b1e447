-- The checks of a frame, and the reader's answer to the same bytes.
use Prim.Native.Nat.{ℕ, ◌+◌, ◌-◌, ◌≤◌}
use mathlib.Core.Path.{◌≡◌, refl, ◌∙◌}
use mathlib.Core.List.{List, ◌∷◌}
use mathlib.Core.Bool.{Bool, true, false, cond, not, ◌&&◌}
use native.Mathlib.Omega.{arith}
use lib.Dec.{eqb, leb}
use lib.ListN.{length}
use borrow.Author.Tests.{ne_eqb}
use Rattle.text.specs.Utf8.{utf8, valid_up_to}
use Rattle.at.specs.Refusal.{Refusal, no, missing, invalid, number_of, OrRefused, good, refused}
use Rattle.at.specs.Event.{ReadEvent, event_to}
use Rattle.at.specs.Line.{read_line}
use Rattle.at.specs.Response.{Response, read_response}
use Rattle.at.specs.W26.{w26}
use Rattle.edm.specs.Packet.{Carries, connect, disconnect, data_event, request, response, at_event, resend, start, unknown, Packet}
use Rattle.edm.specs.Payload.{byte, read_connect, read_disconnect, read_data_event, read_request, of_response, of_event, read_payload}
use Rattle.edm.specs.Frame.{length_field, payload, read_frame}
use Rattle.checks.specs.Check.{◌needs◌else◌at◌, Finding, all_hold, broken, first_broken}
use Rattle.checks.specs.Frame.{payload_checks, is_known, carried_by, frame_checks}
use Rattle.checks.specs.Steps.{delimiter_reason, size_reason, at_reason, frame_reason}
use Rattle.checks.specs.declared.CheckName.TheVariants.{FrameOfTwo, StartByte, EndByte, FrameOfSix, FrameLength, Identifier, ConnectOfTwo, ConnectType, ConnectSize, DisconnectSize, DataChannel, RequestUtf8}
use Rattle.checks.proofs.CheckLaws.{below}
use Rattle.checks.proofs.TextTie.{w26_chooses}
use Rattle.checks.proofs.LineTie.{From, found_line, line_found, line_from}
use Rattle.checks.proofs.ResponseTie.{found_response, response-found, response-from}

-- what the checks of a frame find, by the reader's answer
abbrev pub found_frame : List ℕ → OrRefused Packet → Finding
found_frame s (good k) = all_hold
found_frame s (refused n) = frame_reason s n

-- a refusal of the AT layer is the frame's
pub at-refused : (s : List ℕ) (n : Refusal) → 11 ≤ number_of n → frame_reason s n ≡ at_reason s n
unfolding frame_reason
at-refused s (no n) h =
    rw (
      ne_eqb n 1 (λ e. omega arith),
      ne_eqb n 2 (λ e. omega arith),
      ne_eqb n 3 (λ e. omega arith),
      ne_eqb n 4 (λ e. omega arith),
      ne_eqb n 5 (λ e. omega arith),
      ne_eqb n 6 (λ e. omega arith),
      ne_eqb n 7 (λ e. omega arith),
      ne_eqb n 8 (λ e. omega arith),
      ne_eqb n 9 (λ e. omega arith),
      ne_eqb n 10 (λ e. omega arith),
    )
at-refused s (missing i) h = refl
at-refused s (invalid i why) h = refl

module _ (s : List ℕ) where
  abbrev t : List ℕ
  t = payload s

  event-found : carried_by s ≡ at_event → (a : OrRefused ReadEvent) → From 11 a → found_line w26 5 t a ≡ found_frame s (of_event a)
  unfolding at_reason
  event-found c (good (event_to e past)) f = refl
  event-found c (refused n) f = rw (at-refused s n f, c)

  answer-found : carried_by s ≡ response → (a : OrRefused Response) → From 11 a → found_response 5 t a ≡ found_frame s (of_response a)
  unfolding at_reason
  answer-found c (good r) f = refl
  answer-found c (refused n) f = rw (at-refused s n f, c)

  -- a frame of six bytes or more, by what it carries
  module _ (six : leb 6 (length s) ≡ true) where
    connect_found : carried_by s ≡ connect → first_broken (payload_checks connect 5 t) ≡ found_frame s (read_connect 5 t)
    unfolding read_connect frame_reason first_broken size_reason
    connect_found c = rw (below (length t) 2) (go (leb 2 (length t)) (eqb (byte t 1) 2) (eqb (length t) 15) _)
      where
        go : (a b d : Bool) (k : Packet)
            → cond a (cond b (cond d all_hold (broken ConnectSize (no 6) (5 + length t))) (broken ConnectType (no 5) 6)) (broken ConnectOfTwo (no 2) (5 + length t))
            ≡ found_frame s (cond (not a) (refused (no 2)) (cond b (cond d (good k) (refused (no 6))) (refused (no 5))))
        go false b d k = rw (six, c)
        go true false d k = refl
        go true true false k = refl
        go true true true k = refl

    data-found : carried_by s ≡ data_event → first_broken (payload_checks data_event 5 t) ≡ found_frame s (read_data_event 5 t)
    unfolding read_data_event frame_reason first_broken size_reason
    data-found c = rw (below (length t) 1) (go (leb 1 (length t)) _)
      where
        go : (a : Bool) (k : Packet) → cond a all_hold (broken DataChannel (no 2) (5 + length t)) ≡ found_frame s (cond (not a) (refused (no 2)) (good k))
        go false k = rw (six, c)
        go true k = refl

    payload-found : (c : Carries) → carried_by s ≡ c → first_broken ((Identifier needs is_known c else no 4 at 3) ∷ payload_checks c 5 t) ≡ found_frame s (read_payload c 5 t)
    unfolding first_broken frame_reason read_disconnect read_request
    payload-found connect e = connect_found e
    payload-found disconnect e = go (eqb (length t) 1) _
      where
        go : (a : Bool) (k : Packet) → cond a all_hold (broken DisconnectSize (no 7) (5 + length t)) ≡ found_frame s (cond a (good k) (refused (no 7)))
        go false k = refl
        go true k = refl
    payload-found data_event e = data-found e
    payload-found request e = go (utf8 t) _
      where
        go : (a : Bool) (k : Packet) → cond a all_hold (broken RequestUtf8 (no 8) (5 + valid_up_to t)) ≡ found_frame s (cond a (good k) (refused (no 8)))
        go false k = refl
        go true k = refl
    payload-found response e = response-found 5 t ∙ answer-found e (read_response 5 t) (response-from 5 t)
    payload-found at_event e = line_found w26 w26_chooses 5 t ∙ event-found e (read_line w26 5 t) (line_from w26 w26_chooses 5 t)
    payload-found resend e = refl
    payload-found start e = refl
    payload-found unknown e = refl

  pub frame_found : first_broken (frame_checks s) ≡ found_frame s (read_frame s)
  unfolding frame_checks read_frame first_broken frame_reason delimiter_reason size_reason
  frame_found =
      rw (below (length s) 6)
      (go (leb 2 (length s)) refl (eqb (byte s 0) 0xAA) refl (eqb (byte s (length s - 1)) 0x55) (leb 6 (length s)) refl (eqb (length_field s) (length t + 2)) (λ six. payload-found six (carried_by s) refl))
    where
      rest : Finding
      rest = first_broken ((Identifier needs is_known (carried_by s) else no 4 at 3) ∷ payload_checks (carried_by s) 5 t)

      go : (two : Bool) → leb 2 (length s) ≡ two → (first : Bool) → eqb (byte s 0) 0xAA ≡ first → (last six : Bool) → leb 6 (length s) ≡ six → (len : Bool)
          → (leb 6 (length s) ≡ true → rest ≡ found_frame s (read_payload (carried_by s) 5 t))
          → cond two (cond first (cond last (cond six (cond len rest (broken FrameLength (no 3) 1)) (broken FrameOfSix (no 2) (length s))) (broken EndByte (no 1) (length s - 1))) (broken StartByte (no 1) 0)) (broken FrameOfTwo (no 1) (length s))
          ≡ found_frame s (cond (two && first && last) (cond (not six) (refused (no 2)) (cond len (read_payload (carried_by s) 5 t) (refused (no 3)))) (refused (no 1)))
      go false a first b last six c len e = rw a
      go true a false b last six c len e = rw (a, b)
      go true a true b false six c len e = rw (a, b)
      go true a true b true false c len e = rw c
      go true a true b true true c false e = refl
      go true a true b true true c true e = e c
