-- How long a line is with what its refusal carries: a field's number has one digit.
use Prim.Native.Nat.{ℕ, ◌+◌, ◌*◌, ◌≤◌, ◌<◌}
use mathlib.Core.List.{List}
use native.Mathlib.Omega.{arith}
use lib.ListN.{length, get_or, length-append}
use Rattle.text.specs.declared.number.NumberError.TheVariants.{Empty, Byte, Large}
use Rattle.at.specs.Refusal.{Refusal, no, missing, invalid, OrRefused, good, refused}
use Rattle.at.specs.Line.{read_line}
use Rattle.at.specs.Binary.{Tried, not_binary, tried, try_rows}
use Rattle.at.specs.W26 as w26
use Rattle.at.specs.W36 as w36
use Rattle.at.specs.Why.{UpToSeven, FieldUpToSeven, TriedUpToSeven}
use Rattle.at.specs.declared.FieldError.{FieldError}
use Rattle.at.specs.declared.FieldError.TheVariants.{NoNumber, NotListed}
use Rattle.at.proofs.TableTests.{roomy-w26, roomy-w36, roomy-binary}
use Rattle.at.proofs.WhyLaws.{line_seven, binary-seven}
use Rattle.edm.specs.Frame.{read_frame}
use Rattle.edm.proofs.WhyPrograms.{frame-seven}
use Rattle.render.specs.Event.{cases26, cases36, answer_line}
use Rattle.render.specs.Walk.{tried_line}
use Rattle.render.specs.Frame.{frame_line}
use Rattle.render.specs.Why.{reason_word, field_word, carried_line, carried_by, tried_carries, why_line, why_tried_line, why_frame_line}
use Rattle.render.proofs.WordLengths.{decimal-within}
use Rattle.render.proofs.LineRoom.{w26-room, w36-room, binary-room}
use Rattle.render.proofs.FrameRoom.{frame-room}

reason_room : (why : FieldError) → length (reason_word why) ≤ 6
reason_room (NoNumber Empty) = omega arith
reason_room (NoNumber Byte) = omega arith
reason_room (NoNumber Large) = omega arith
reason_room NotListed = omega arith

field_room : (i : ℕ) → i ≤ 7 → length (field_word i) ≤ 8
field_room i h = omega (arith, decimal-within 0 i (omega arith))

refusal-room : (n : Refusal) → UpToSeven n → length (carried_line n) ≤ 14
refusal-room (no n) h = omega arith
refusal-room (missing i) h = omega (arith, field_room i h.1)
refusal-room (invalid i why) h = omega (arith, field_room i h.1, reason_room why, length-append (field_word i) (reason_word why))

carried-room : {A : Type 0} (o : OrRefused A) → FieldUpToSeven o → length (carried_by o) ≤ 14
carried-room (good a) h = omega arith
carried-room (refused n) h = refusal-room n h

tried-room : (t : Tried) → TriedUpToSeven t → length (tried_carries t) ≤ 14
tried-room not_binary h = omega arith
tried-room (tried a) h = carried-room a h

module _ (s : List ℕ) where
  pub why_26_room : length (why_line cases26 s (read_line w26.w26 0 s)) ≤ 2 * length s + 164
  why_26_room =
      let a = read_line w26.w26 0 s in
      omega (arith, w26-room s, carried-room a (line_seven w26.w26 0 s roomy-w26.0), length-append (answer_line cases26 s a) (carried_by a))

  pub why_36_room : length (why_line cases36 s (read_line w36.w36 0 s)) ≤ 2 * length s + 164
  why_36_room =
      let a = read_line w36.w36 0 s in
      omega (arith, w36-room s, carried-room a (line_seven w36.w36 0 s roomy-w36.0), length-append (answer_line cases36 s a) (carried_by a))

  pub why-binary-room : length (why_tried_line s (try_rows w36.binary_table 0 s)) ≤ 2 * length s + 164
  why-binary-room =
      let t = try_rows w36.binary_table 0 s in
      omega (arith, binary-room s, tried-room t (binary-seven w36.binary_table 0 s roomy-binary), length-append (tried_line s t) (tried_carries t))

  pub why-frame-room : ((i : ℕ) → get_or s i 0 < 256) → length (why_frame_line s (read_frame s)) ≤ 2 * length s + 164
  why-frame-room b =
      let a = read_frame s in
      omega (arith, frame-room s b, carried-room a (frame-seven s), length-append (frame_line s a) (carried_by a))
