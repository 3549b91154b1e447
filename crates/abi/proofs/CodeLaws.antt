-- What a write comes to, and the plain number of a read. Assumes nothing.
use Prim.Native.Nat.{ℕ, ◌+◌, ◌/◌, ◌%◌}
use mathlib.Core.Path.{◌≡◌, refl, ap, ◌∙◌}
use mathlib.Core.List.{List}
use Rattle.std.specs.Prelude.{Result, Ok as is_ok, Err}
use native.Mathlib.Omega.{arith}
use Rattle.at.specs.Refusal.{Refusal, no, missing, invalid, number_of, OrRefused, good, refused}
use Rattle.at.specs.Why.{UpToSeven}
use Rattle.at.specs.Binary.{Tried, not_binary, tried}
use Rattle.edm.specs.Command.{shown, Writes}
use Rattle.at.specs.Event.{Row, Event}
use Rattle.at.specs.Parts.{together}
use Rattle.at.specs.declared.parts.Parts.{Parts}
use Rattle.writer.specs.Write as lines
use Rattle.writer.specs.declared.EventWriteError.{EventWriteError}
use Rattle.at.specs.Refusal as events
use Rattle.at.specs.declared.AtPacketError.{AtPacketError}
use Rattle.at.specs.declared.AtPacketError.TheVariants as at
use Rattle.edm.specs.Refusal as frames
use Rattle.edm.specs.declared.EdmPacketError.{EdmPacketError}
use Rattle.edm.specs.declared.EdmPacketError.TheVariants as frame
use Rattle.abi.specs.Code.{field_no, reason_no, read_code, binary_code, why_no, why_code, why_binary_code, frame_base, line_base, write_code, Sends}
use Rattle.abi.specs.Given.{line_for}
use Rattle.abi.specs.Steps.{row_error_no, Gives}
use Rattle.abi.specs.declared.given.RowError.{RowError}
use Rattle.abi.proofs.Numbers.{Known, known, Ok, Tried_ok}

-- a write's number and the buffer that it leaves, from its answer
pub sends : (b : List ℕ) (w : OrRefused (List ℕ)) {a : Result ℕ EdmPacketError} {r : ℕ} {e : List ℕ} → Writes b w a e → r ≡ write_code frame_base (shown a)
    → Sends frame_base b w r e
sends b w p n = record { answers = n ∙ ap (write_code frame_base) p.answers; leaves = p.leaves }

-- the same of the line of an event that was given, and of a row that is none
pub sends_given : (rows : List Row) (room : ℕ) (src b : List ℕ) (o : OrRefused Event) (p : Parts) {a : Result ℕ EventWriteError} {r : ℕ} {e : List ℕ} → Gives rows (is_ok p) o
    → lines.Writes b (lines.parts_for room src (together rows p)) a e → r ≡ write_code line_base (lines.shown a) → Sends line_base b (line_for room src o) r e
sends_given rows room src b o p g w n =
    let q : lines.Writes b (lines.parts_for room src (good g.0)) _ _ = rw g.1 at w in
    rw g.2 (record { answers = n ∙ ap (write_code line_base) q.answers; leaves = q.leaves })

pub sends_none : (rows : List Row) (room : ℕ) (src b : List ℕ) (o : OrRefused Event) (n : RowError) {r : ℕ} → Gives rows (Err n) o → r ≡ line_base + row_error_no n
    → Sends line_base b (line_for room src o) r b
sends_none rows room src b o n g e = rw g (record { answers = e; leaves = refl })

-- the lowest byte of the number that says why is the number of the refusal
pub refusal_lowest : (n : Refusal) → Known (number_of n) → why_no n % 256 ≡ number_of n
refusal_lowest (no n) k = omega (arith, k.most)
refusal_lowest (missing i) k = omega arith
refusal_lowest (invalid i why) k = omega arith

pub read_lowest : {A : Type 0} (o : OrRefused A) → Ok o → why_code o % 256 ≡ read_code o
read_lowest (good a) k = refl
read_lowest (refused n) k = refusal_lowest n k

pub binary_lowest : (t : Tried) → Tried_ok t → why_binary_code t % 256 ≡ binary_code t
binary_lowest not_binary k = refl
binary_lowest (tried a) k = read_lowest a k

-- a number that says all three: the refusal's own, the field and the reason
pub record Unpacks (n : Refusal) (r : ℕ) : Type 0 where
  pub lowest : r % 256 ≡ number_of n
  pub above : r / 256 % 256 ≡ field_no n
  pub highest : r / 65536 ≡ reason_no n

pub refusal_unpacks : (n : Refusal) → Known (number_of n) → UpToSeven n → Unpacks n (why_no n)
refusal_unpacks (no n) k h = record { lowest = omega (arith, k.most); above = omega (arith, k.most); highest = omega (arith, k.most) }
refusal_unpacks (missing i) k h = record { lowest = omega arith; above = omega (arith, h.1); highest = omega (arith, h.1) }
refusal_unpacks (invalid i why) k h = record { lowest = omega arith; above = omega (arith, h.1); highest = omega (arith, h.1) }

-- every refusal of the code has a number from 1 to 16
pub at_known : (e : AtPacketError) → Known (events.refusal_no e)
at_known at.Utf8DecodeFailed = known 11 refl refl
at_known at.FramingDecodeFailed = known 12 refl refl
at_known at.TypeDecodeUnsupported = known 13 refl refl
at_known (at.TypeDecodeParameterMissing field) = known 14 refl refl
at_known (at.TypeDecodeParameterDataTypeInvalid field why) = known 15 refl refl
at_known at.EventUnknown = known 16 refl refl

pub frame_known : (e : EdmPacketError) → Known (frames.refusal_no e)
frame_known frame.PacketDecodeFramingInvalid = known 1 refl refl
frame_known frame.PacketDecodeTargetMemorySizeInvalid = known 2 refl refl
frame_known frame.PacketTypeDecodeLengthMismatch = known 3 refl refl
frame_known frame.PayloadTypeUnknown = known 4 refl refl
frame_known frame.ConnectEventUnsupported = known 5 refl refl
frame_known frame.ConnectEventDecodeError = known 6 refl refl
frame_known frame.DisconnectEventDecodeError = known 7 refl refl
frame_known frame.AtRequestEventDecodeError = known 8 refl refl
frame_known frame.PacketEncodeTypeUnknown = known 9 refl refl
frame_known frame.PacketEncodePayloadSizeInvalid = known 10 refl refl
frame_known (frame.AtPacketError e) = at_known e
