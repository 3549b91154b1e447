-- What the private steps of the code answer: the check and the byte that go with a reader's refusal. No promise of a public function cites this file;
-- that these are what the lists of checks find is proved (proofs/LineTie.antt and the files beside it).
use Rattle.std.specs.Prelude.{ℕ, ◌+◌, ◌-◌, List, [], ◌∷◌, Bool, true, false, cond, eqb, leb, ltb, length, drop}
use Rattle.text.specs.Bytes.{starts_with}
use Rattle.text.specs.Find.{crlf, first_of}
use Rattle.text.specs.Utf8.{valid_up_to, inside_character}
use Rattle.text.specs.Field.{Field, fields_from}
use Rattle.text.specs.declared.number.NumberError.TheVariants.{Empty, Byte, Large}
use Rattle.at.specs.Refusal.{Refusal, no, missing, invalid, number_of}
use Rattle.at.specs.Line.{fields_after}
use Rattle.at.specs.Event.{Row}
use Rattle.at.specs.Binary.{marker, prefix}
use Rattle.at.specs.declared.FieldError.{FieldError}
use Rattle.at.specs.declared.FieldError.TheVariants.{NoNumber, NotListed}
use Rattle.edm.specs.Packet.{Carries, connect, disconnect, data_event, request, response, at_event, resend, start, unknown}
use Rattle.edm.specs.Payload.{byte}
use Rattle.edm.specs.Frame.{payload}
use Rattle.checks.specs.Check.{Finding, broken}
use Rattle.checks.specs.Line.{start_of, inner}
use Rattle.checks.specs.Binary.{field_text, after_marker}
use Rattle.checks.specs.Frame.{carried_by}
use Rattle.checks.specs.declared.CheckName.{CheckName}
use Rattle.checks.specs.declared.CheckName.TheVariants as check
use Rattle.checks.specs.declared.Reason.{Reason}

-- what a reason says of a refusal
abbrev pub told : Reason → Refusal → Finding
told r n = broken r.check n r.byte

-- the start of a field, counted from 0
abbrev pub start_no : ℕ → List Field → ℕ
start_no i fs = start_of (drop i fs)

-- the check that a reason for 15 belongs to
abbrev pub form_check : ℕ → FieldError → CheckName
form_check i (NoNumber Empty) = check.FieldEmpty i
form_check i (NoNumber Byte) = check.FieldByte i
form_check i (NoNumber Large) = check.FieldLarge i
form_check i NotListed = check.FieldListed i

-- a text at the place p whose fields are fs and end at the place `end`: by the refusal. A type stands in the second field
abbrev pub text_reason : ℕ → ℕ → List Field → Refusal → Finding
text_reason p end fs (no n) = cond (eqb n 16) (broken check.EventName (no n) p) (broken (check.FieldType 2) (no n) (start_no 1 fs))
text_reason p end fs (missing i) = broken (check.FieldThere i) (missing i) end
text_reason p end fs (invalid i why) = broken (form_check i why) (invalid i why) (start_no (i - 1) fs)

-- a line at the place p that is refused with 12
unfoldable pub framing_reason : ℕ → List ℕ → Refusal → Finding
framing_reason p line n =
    cond (leb 2 (length line))
    (cond (inside_character line 2) (broken check.PlaceTwo n (p + 2)) (broken check.LineEnd n (p + length line)))
    (broken check.LineOfTwo n (p + length line))

-- a line at the place p, of whose text t is kept
unfoldable pub line_reason : ℕ → List ℕ → List ℕ → Refusal → Finding
line_reason p line t n =
    cond (eqb (number_of n) 11) (broken check.Utf8 n (p + valid_up_to line))
    (cond (eqb (number_of n) 12) (framing_reason p line n)
    (cond (leb 2 (length line)) (text_reason (p + 2) (p + 2 + length t) (fields_after (p + 2) t) n) (framing_reason p line n)))

-- a response at the place p
unfoldable pub response_reason : ℕ → List ℕ → Refusal → Finding
response_reason p s n =
    cond (eqb (number_of n) 11) (broken check.Utf8 n (p + valid_up_to s))
    (cond (ltb (first_of crlf s) (length s)) (broken check.LastLineEnd n (p + length s)) (broken check.FirstLineEnd n (p + length s)))

-- what follows the marker of a binary event, in an input that ends at the place `end`
unfoldable pub data_reason : ℕ → List ℕ → Refusal → Finding
data_reason end t n = cond (leb 2 (length t)) (broken check.DataBytes n end) (broken check.LengthBytes n end)

-- what follows the colon, at the place p
unfoldable pub body_reason : ℕ → List ℕ → Refusal → Finding
body_reason p t n =
    cond (ltb (first_of marker t) (length t))
    (cond (eqb (number_of n) 11) (broken check.Utf8 n (p + valid_up_to (field_text t)))
    (cond (eqb (number_of n) 12)
    (data_reason (p + length t) (after_marker t) n)
    (text_reason p (p + length (field_text t)) (fields_from p (field_text t)) n)))
    (broken check.Marker n (p + length t))

-- the event of the first row whose prefix the bytes start with
unfoldable pub binary_reason : List Row → ℕ → List ℕ → Refusal → Finding
binary_reason [] p s n = broken check.Marker n p
binary_reason (r ∷ rs) p s n = cond (starts_with s (prefix r)) (body_reason (p + length (prefix r)) (drop (length (prefix r)) s) n) (binary_reason rs p s n)

-- a frame: by the number, and where that is shared by the frame
unfoldable pub delimiter_reason : List ℕ → Refusal → Finding
delimiter_reason s n =
    cond (leb 2 (length s))
    (cond (eqb (byte s 0) 0xAA) (broken check.EndByte n (length s - 1)) (broken check.StartByte n 0))
    (broken check.FrameOfTwo n (length s))

abbrev pub is_connect : Carries → Bool
is_connect connect = true
is_connect disconnect = false
is_connect data_event = false
is_connect request = false
is_connect response = false
is_connect at_event = false
is_connect resend = false
is_connect start = false
is_connect unknown = false

abbrev pub is_response : Carries → Bool
is_response connect = false
is_response disconnect = false
is_response data_event = false
is_response request = false
is_response response = true
is_response at_event = false
is_response resend = false
is_response start = false
is_response unknown = false

unfoldable pub size_reason : List ℕ → Refusal → Finding
size_reason s n =
    cond (leb 6 (length s))
    (cond (is_connect (carried_by s)) (broken check.ConnectOfTwo n (5 + length (payload s))) (broken check.DataChannel n (5 + length (payload s))))
    (broken check.FrameOfSix n (length s))

unfoldable pub at_reason : List ℕ → Refusal → Finding
at_reason s n = cond (is_response (carried_by s)) (response_reason 5 (payload s) n) (line_reason 5 (payload s) (inner (payload s)) n)

abbrev pub number_reason : List ℕ → ℕ → Finding
number_reason s n =
    cond (eqb n 1) (delimiter_reason s (no n))
    (cond (eqb n 2) (size_reason s (no n))
    (cond (eqb n 3) (broken check.FrameLength (no n) 1)
    (cond (eqb n 4) (broken check.Identifier (no n) 3)
    (cond (eqb n 5) (broken check.ConnectType (no n) 6)
    (cond (eqb n 6) (broken check.ConnectSize (no n) (5 + length (payload s)))
    (cond (eqb n 7) (broken check.DisconnectSize (no n) (5 + length (payload s)))
    (cond (eqb n 8) (broken check.RequestUtf8 (no n) (5 + valid_up_to (payload s)))
    (cond (eqb n 9) (broken check.Identifier (no n) 3)
    (cond (eqb n 10) (broken check.Identifier (no n) 3)
    (at_reason s (no n)))))))))))

-- a refusal that carries a field is one of the AT layer
unfoldable pub frame_reason : List ℕ → Refusal → Finding
frame_reason s (no n) = number_reason s n
frame_reason s (missing i) = at_reason s (missing i)
frame_reason s (invalid i why) = at_reason s (invalid i why)
