use Prim.Native.Nat.{◌≤◌, ◌<◌}
use mathlib.Core.Path.{refl, ap, ◌∙◌}
use native.Mathlib.Omega.{arith}
use lib.ListN.{length, length-map}
use Rattle.at.specs.Event.{kinds_of}
use Rattle.std.specs.Prelude.{List, map, slice_get}
use Rattle.at.specs.Parts.{value_of, values_of}
use Rattle.at.specs.declared.parts.Value.{Value}
use Rattle.writer.specs.Steps.{data_in}
use Rattle.writer.specs.declared.line.Line.{Line}
use Rattle.at.proofs.TableLaws.{sized, no_row, row_texts}
use Rattle.writer.proofs.LineLaws.{cut_values, row_write}
use Rattle.writer.proofs.line.write_parts.Goals as goal

-- `line::write_parts` meets its contract: the name and the letters that the table has for the row are the row's. Assumes nothing.
pub returns-then-table-p : goal.returns-then-table-p
returns-then-table-p c = λ rows t.
    let past : length rows ≤ c.args.p.row = omega (arith, sized rows c.args.table.now t, c.if-table-p.true) in
    rw (no_row rows c.args.p.row past) (record { answers = refl; leaves = refl })

pub returns : goal.returns
returns c = λ rows t.
    let p = c.args.p in
    let listed : p.row < length rows = omega (arith, sized rows c.args.table.now t, c.if-table-p.false) in
    let row = row_texts rows _ _ t listed in
    let count = ap length (c.kinds_at.ensures ∙ row.3) ∙ length-map (kinds_of row.0) _ in
    let both = cut_values p c.value_count.result c.value_count.ensures (length (kinds_of row.0)) c.min.result (rw count at c.min.ensures) in
    let line : Line = record { src = c.args.src; name = c.name_at.result; fields = c.split_at.result.0; «data» = c.copied.result } in
    let first = c.copied.ensures ∙ c.first.ensures.value ∙ ap (λ (later : List Value). slice_get later 0) c.split_at.ensures.back in
    let written = row_write (length c.args.buf.now) line row.0 (values_of p) (c.name_at.ensures ∙ row.2) (ap (map value_of) c.split_at.ensures.front ∙ both.0) (ap data_in first ∙ both.1) in
    rw (row.1, ← written) c.write.ensures
