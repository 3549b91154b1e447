-- What a frame hands out fits its layout (specs/Typed.antt), whatever the frame's bytes are: over the definitions. Assumes nothing.
use Prim.Native.Nat.{ℕ, ◌+◌, ◌-◌}
use mathlib.Core.Path.{refl, sym, ap, ◌∙◌}
use mathlib.Core.List.{List, ◌++◌}
use lib.Dec.{eqb, ltb}
use lib.ListN.{length, drop, take-append-drop}
use Rattle.text.specs.Utf8.{utf8}
use Rattle.text.proofs.Bools.{either, by_test}
use Rattle.at.specs.Refusal.{OrRefused, good, refused}
use Rattle.at.specs.Event.{ReadEvent, event_to}
use Rattle.at.specs.Line.{read_line}
use Rattle.at.specs.Response.{Response, read_response}
use Rattle.at.specs.W26.{w26, table}
use Rattle.at.specs.Inside.{IfGood}
use Rattle.at.specs.Typed.{TextAnswer, ResponseTyped}
use Rattle.at.proofs.LineLaws.{drop-take}
use Rattle.at.proofs.HeldLaws.{Stands, text_at_lem}
use Rattle.at.proofs.TypedLaws.{trims_26, line_held, response-held}
use Rattle.edm.specs.Packet.{Carries, connect, disconnect, data_event, request, response, at_event, resend, start, unknown, identifiers, carried, Packet}
use Rattle.edm.specs.Payload.{byte, word, read_connect, read_disconnect, read_data_event, read_request, of_response, of_event, read_payload}
use Rattle.edm.specs.Frame.{delimited, length_field, payload, read_frame}
use Rattle.edm.specs.Typed.{PacketTyped}

-- the payload stands at the place 5
payload_stands : (s : List ℕ) → Stands s 5 (payload s)
payload_stands s =
    let n = length s - 1 - 5 in
    (drop n (drop 5 s), sym (take-append-drop n (drop 5 s)) ∙ ap (λ (l : List ℕ). l ++ drop n (drop 5 s)) (sym (drop-take 5 (length s - 1) s)))

-- a payload that stands at the place p of the frame s
module _ (s : List ℕ) (p : ℕ) (t : List ℕ) (h : Stands s p t) where
  abbrev Fits : OrRefused Packet → Type 0
  Fits o = IfGood (PacketTyped s) o

  of_response_lem : (a : OrRefused Response) → IfGood (ResponseTyped s) a → Fits (of_response a)
  of_response_lem (good r) i = i
  of_response_lem (refused m) i = tt

  of_event_lem : (a : OrRefused ReadEvent) → TextAnswer table s a → Fits (of_event a)
  of_event_lem (good (event_to e past)) i = i
  of_event_lem (refused m) i = tt

  payload-typed : (k : Carries) → Fits (read_payload k p t)
  unfolding read_connect read_disconnect read_data_event read_request
  payload-typed connect = either Fits (ltb (length t) 2) tt (either Fits (eqb (byte t 1) 2) (either Fits (eqb (length t) 15) tt tt) tt)
  payload-typed disconnect = either Fits (eqb (length t) 1) tt tt
  payload-typed data_event = either Fits (ltb (length t) 1) tt tt
  payload-typed request = by_test Fits (utf8 t) (λ u. text_at_lem s p (length t) t refl (h, u)) (λ u. tt)
  payload-typed response = of_response_lem (read_response p t) (response-held s p t h)
  payload-typed at_event = of_event_lem (read_line w26 p t) (line_held s w26 trims_26 p t h)
  payload-typed resend = tt
  payload-typed start = tt
  payload-typed unknown = tt

pub frame-typed : (s : List ℕ) → IfGood (PacketTyped s) (read_frame s)
unfolding read_frame
frame-typed s =
    let P = IfGood (PacketTyped s) in
    let held = payload-typed s 5 (payload s) (payload_stands s) (carried identifiers (word s 3)) in
    either P (delimited s) (either P (ltb (length s) 6) tt (either P (eqb (length_field s) (length (payload s) + 2)) held tt)) tt
