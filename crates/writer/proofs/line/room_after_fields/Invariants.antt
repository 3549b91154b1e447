use Rattle.std.proofs.Common.{◌≡◌, ◌+◌, length, drop}
use Rattle.writer.specs.Line.{after_name}
use Rattle.writer.specs.Steps.{texts}
use Rattle.writer.proofs.FieldsLaws.{separated}
use Rattle.writer.proofs.line.room_after_fields.Given as goal

-- `line::room_after_fields` meets its contract. The invariant: `left` and all the fields together are as many bytes as `room` and the fields that are
-- still to come. Assumes nothing.
abbrev pub invariant-loop-field : goal.invariant-loop-field
invariant-loop-field l =
    l.left + length (after_name (texts l.src l.fields)) ≡ l.room + length (separated 44 (texts l.src (drop l.field-index l.fields)))
