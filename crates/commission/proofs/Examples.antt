-- Sessions, worked out by hand: lines, and the answer to the last of them. Assumes nothing.
use Prim.Native.Nat.{ℕ}
use Prim.Native.String.{String}
use mathlib.Core.Path.{◌≡◌, refl}
use mathlib.Core.List.{List, [], ◌∷◌}
use mathlib.Core.Bool.{false}
use Rattle.text.specs.Bytes.{bytes, same, starts_with, part}
use Rattle.text.specs.Find.{first_of}
use Rattle.text.specs.Number.{digits_from}
use Rattle.text.specs.Decimal.{decimal, digits_of}
use Rattle.edm.specs.Packet.{identifiers, carried}
use Rattle.edm.specs.Payload.{read_connect}
use Rattle.edm.specs.Frame.{read_frame}
use Rattle.lines.specs.Cut.{cut_at}
use Rattle.lines.specs.Hex.{pairs, bytes_in}
use Rattle.lines.specs.Input.{without_cr}
use Rattle.lines.specs.Number.{number_in}
use Rattle.render.specs.Words.{pairs_of, name_in, number_word, values_line}
use Rattle.render.specs.Refusal.{refusals, frame_refused_line}
use Rattle.channels.specs.Machine.{Machine, fresh, step}
use Rattle.commission.specs.Question.{asked, asked_in}
use Rattle.commission.specs.Reply.{row_line, open_row, open_rows, counts_line, reply, after}

-- the answer to the last line
abbrev pub answer_to : Machine → List ℕ → List String → List ℕ
answer_to m answer [] = answer
answer_to m answer (line ∷ rest) = answer_to (after m (asked_in false (bytes line))) (reply m (asked_in false (bytes line))) rest

-- channel 3 connects to 192.168.0.7, port 5000; the local end is 10.0.0.5, port 8080
abbrev connect : String
connect = "frame AA 00 11 00 11 03 02 06 C0 A8 00 07 13 88 0A 00 00 05 1F 90 55"

pub data Example : Type 0 where
  ◌answers◌ : List String → String → Example

infix 20 ◌answers◌
abbrev pub All : List Example → Type 0
All [] = Unit {0}
All ((lines answers line) ∷ es) = (answer_to fresh [] lines ≡ bytes line) × All es

abbrev pub examples : List Example
examples =
    (connect ∷ [] answers "ConnectEvent 3 ConnectEventIPv4 6 c0a80007 5000 0a000005 8080")
    ∷ (connect ∷ "row 3" ∷ [] answers "3 open ipv4 192.168.0.7 5000")
    ∷ (connect ∷ "row 003\r" ∷ [] answers "3 open ipv4 192.168.0.7 5000")
    ∷ (connect ∷ "row 4" ∷ [] answers "4 closed")
    ∷ ("counts" ∷ [] answers "reopened 0 closed 0 stray 0 refused 0")
    ∷ (connect ∷ connect ∷ "frame aa55" ∷ "counts" ∷ [] answers "reopened 1 closed 0 stray 0 refused 1")
    ∷ ("row 256" ∷ [] answers "what?")
    ∷ ("rows 1" ∷ [] answers "what?")
    ∷ ("" ∷ [] answers "what?")
    ∷ ("frame 4" ∷ "counts" ∷ [] answers "reopened 0 closed 0 stray 0 refused 0")
    ∷ []

pub all : All examples
unfolding asked_in asked without_cr cut_at first_of starts_with same bytes_in pairs number_in digits_from read_frame identifiers carried read_connect step part row_line open_row open_rows counts_line decimal digits_of pairs_of name_in number_word values_line refusals frame_refused_line
all = (refl, (refl, (refl, (refl, (refl, (refl, (refl, (refl, (refl, (refl, tt))))))))))
