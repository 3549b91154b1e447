use Rattle.std.proofs.Common.{sym, ap, ◌∙◌}
use Rattle.std.proofs.lemmas.Result.{err_from_is_err_and}
use Rattle.capture.specs.Line.{wrong}
use Rattle.capture.proofs.LineLaws.{empty_line, full_line, stamp-none, stamp-some}
use Rattle.capture.proofs.line.record_in.Goals as goal

-- `line::record_in` meets its contract. Assumes nothing.
pub returns-then-is_empty : goal.returns-then-is_empty
returns-then-is_empty c = empty_line c.args.line.now c.before_note-s.result.now c.before_note-s.ensures c.if-is_empty.ensures

pub returns-in_err-ok_or : goal.returns-in_err-ok_or
returns-in_err-ok_or c =
    let f = full_line c.args.line.now c.before_note-s.result.now c.before_note-s.ensures c.if-is_empty.ensures in
    let n = stamp-none c.time_in.result c.in_err-ok_or.field-0.0 (sym c.ok_or.ensures.value ∙ c.in_err-ok_or.was) in
    let p = err_from_is_err_and c.from_residual.result c.from_residual.ensures.1 in
    rw (f, ← c.cut_at.ensures, c.in_default.is, ← c.time_in.ensures, n.0, p.1) (ap wrong (p.2 ∙ n.1))

pub returns-in_default : goal.returns-in_default
returns-in_default c =
    let f = full_line c.args.line.now c.before_note-s.result.now c.before_note-s.ensures c.if-is_empty.ensures in
    rw (f, ← c.cut_at.ensures, c.in_default.is, ← c.time_in.ensures, stamp-some c.time_in.result c.in_ok-ok_or.field-0 (sym c.ok_or.ensures.value ∙ c.in_ok-ok_or.was))

pub returns-in_err-time : goal.returns-in_err-time
returns-in_err-time c =
    let f = full_line c.args.line.now c.before_note-s.result.now c.before_note-s.ensures c.if-is_empty.ensures in
    let n = stamp-none c.time_in-2.result c.in_err-time.field-0.0 (sym c.ok_or-2.ensures.value ∙ c.in_err-time.was) in
    let p = err_from_is_err_and c.from_residual-in_err-time.result c.from_residual-in_err-time.ensures.1 in
    rw (f, ← c.cut_at.ensures, c.in-Some.is, ← c.time_in-2.ensures, n.0, p.1) (ap wrong (p.2 ∙ n.1))

pub returns : goal.returns
returns c =
    let f = full_line c.args.line.now c.before_note-s.result.now c.before_note-s.ensures c.if-is_empty.ensures in
    rw (f, ← c.cut_at.ensures, c.in-Some.is, ← c.time_in-2.ensures, stamp-some c.time_in-2.result c.in_ok-time.time (sym c.ok_or-2.ensures.value ∙ c.in_ok-time.was)) c.framed.ensures
