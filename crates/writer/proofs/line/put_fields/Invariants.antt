use Rattle.std.proofs.Common.{◌≡◌, ◌+◌, length, drop}
use Rattle.text.specs.Put.{after}
use Rattle.writer.specs.Line.{after_name}
use Rattle.writer.specs.Steps.{texts}
use Rattle.writer.proofs.FieldsLaws.{separated}
use Rattle.writer.proofs.line.put_fields.Given as goal

-- `line::put_fields` meets its contract. The invariant: the fields that are still to come, put at `to`, make the buffer what all of them put at `at`
-- make it. Assumes nothing.
abbrev pub invariant-loop-field : goal.invariant-loop-field
invariant-loop-field l =
    (length l.buf ≡ length l.initial.buf) × (l.to + length (separated l.separator (texts l.src (drop l.field-index l.fields))) ≡ l.at + length (after_name (texts l.src l.fields)))
    × (after l.buf l.to (separated l.separator (texts l.src (drop l.field-index l.fields))) ≡ after l.initial.buf l.at (after_name (texts l.src l.fields)))
