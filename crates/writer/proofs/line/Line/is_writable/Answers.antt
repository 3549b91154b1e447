use Rattle.writer.proofs.FieldsLaws.{writable_all}
use Rattle.writer.proofs.line.Line.is_writable.Goals as goal

-- `line::Line::is_writable` meets its contract: the fields decide, and then the data after them. Assumes nothing.
pub returns-then-fields_writable : goal.returns-then-fields_writable
returns-then-fields_writable c =
    rw (c.in-Some.is, writable_all, ← c.fields_writable.ensures, c.if-fields_writable.true) c.data_writable.ensures

pub returns-else-fields_writable : goal.returns-else-fields_writable
returns-else-fields_writable c = rw (c.in-Some.is, writable_all, ← c.fields_writable.ensures, c.if-fields_writable.false)

pub returns-in-None : goal.returns-in-None
returns-in-None c = rw (c.in-None.is, writable_all) c.fields_writable-in-None.ensures
