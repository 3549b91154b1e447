-- How long the line of an explanation is, of an input as long as a line of `replay` may spell: at most 500 bytes.
use Prim.Native.Nat.{ℕ, ◌+◌, ◌≤◌}
use mathlib.Core.List.{List}
use native.Mathlib.Omega.{arith}
use lib.ListN.{length}
use Rattle.at.specs.Line.{read_line}
use Rattle.at.specs.Binary.{try_rows}
use Rattle.at.specs.Response.{read_response}
use Rattle.at.specs.W26 as w26
use Rattle.at.specs.W36 as w36
use Rattle.at.proofs.InsideLaws.{stays_26, stays_36}
use Rattle.at.proofs.TypedLaws.{trims_26, trims_36, line_typed, rows-typed}
use Rattle.edm.specs.Frame.{read_frame}
use Rattle.edm.proofs.TypedLaws.{frame-typed}
use Rattle.checks.specs.Line.{line_checks}
use Rattle.checks.specs.Response.{response_checks}
use Rattle.checks.specs.Binary.{Binary, not_binary, binary, binary_checks}
use Rattle.checks.specs.Frame.{frame_checks}
use Rattle.checks.specs.Part.{response_shape, line_shape, binary_shape, parts_by, frame_parts}
use Rattle.render.specs.Explained.{explains_line, explains_binary_line}
use Rattle.render.proofs.PartRoom.{sevens, line_parts_room, binary_parts_room, response_parts_room, frame_parts_room}
use Rattle.render.proofs.CheckRoom.{found-room, line_short, response-short, IfShort, binary-short, frame-short}

module _ (s : List ℕ) (l : length s ≤ 131072) where
  pub explain_frame-room : length (explains_line (frame_checks s) (read_frame s) (frame_parts s)) ≤ 500
  explain_frame-room = found-room _ (omega arith) _ (frame_parts_room s l (read_frame s) (frame-typed s)) (frame_checks s) (frame-short s)

  pub explain_26_room : length (explains_line (line_checks w26.w26 0 s) (read_line w26.w26 0 s) (λ e. parts_by (line_shape (length s) e) s 0)) ≤ 500
  explain_26_room =
      found-room _ (omega arith) _ (line_parts_room s l w26.table sevens.0 (read_line w26.w26 0 s) (line_typed s 0 w26.w26 trims_26)) (line_checks w26.w26 0 s)
      (line_short w26.w26 sevens.0 stays_26 0 s)

  pub explain_36_room : length (explains_line (line_checks w36.w36 0 s) (read_line w36.w36 0 s) (λ e. parts_by (line_shape (length s) e) s 0)) ≤ 500
  explain_36_room =
      found-room _ (omega arith) _ (line_parts_room s l w36.table sevens.1 (read_line w36.w36 0 s) (line_typed s 0 w36.w36 trims_36)) (line_checks w36.w36 0 s)
      (line_short w36.w36 sevens.1 stays_36 0 s)

  pub explain_response-room : length (explains_line (response_checks 0 s) (read_response 0 s) (λ a. parts_by (response_shape 0 a) s 0)) ≤ 500
  explain_response-room = found-room _ (omega arith) _ (response_parts_room s l (read_response 0 s)) (response_checks 0 s) (response-short 0 s)

  pub explain_binary-room : length (explains_binary_line (binary_checks w36.binary_table 0 s) (try_rows w36.binary_table 0 s) (λ e. parts_by (binary_shape (length s) e) s 0)) ≤ 500
  explain_binary-room = go (binary_checks w36.binary_table 0 s) (binary-short s)
    where
      go : (b : Binary) → IfShort (14 + length s) b → length (explains_binary_line b (try_rows w36.binary_table 0 s) (λ e. parts_by (binary_shape (length s) e) s 0)) ≤ 500
      go not_binary h = omega arith
      go (binary checks) h = found-room (14 + length s) (omega arith) _ (binary_parts_room s l (try_rows w36.binary_table 0 s) (rows-typed s 0 w36.binary_table)) checks h
