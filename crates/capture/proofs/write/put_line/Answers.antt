use Rattle.std.proofs.Common.{sym, refl, ap, ◌∙◌, Ok}
use Rattle.capture.specs.Steps.{said_of}
use Rattle.capture.proofs.LineLaws.{said_fits}
use Rattle.capture.proofs.write.put_line.Goals as goal

-- `write::put_line` meets its contract: a record that a line says fits, and a line that says none leaves the output as it was. Assumes nothing.
pub put_record-requires : goal.put_record-requires
put_record-requires g c =
    let s = c.in-Some.said in
    let f = said_fits s.time.seconds s.time.microseconds _ c.args.line.now (ap (said_of c.record_in.new.frame) (sym (c.in-Ok.is ∙ ap Ok c.in-Some.is)) ∙ c.record_in.ensures) in
    (c.with_room-out.ensures.1, c.requires.1, f.0, rw c.part.ensures f.1)

pub returns-in_default : goal.returns-in_default
returns-in_default g c = rw (← c.record_in.ensures, c.in-Ok.is, c.in_default.is) (refl, refl)

pub returns : goal.returns
returns g c =
    let p = c.put_record.ensures in
    let room = c.with_room-out.ensures.0 in
    rw (← c.record_in.ensures, c.in-Ok.is, c.in-Some.is, ← c.part.ensures) (record { counts = rw (← room) p.0; leaves = rw (← room) p.1 })

pub returns-in-Err : goal.returns-in-Err
returns-in-Err g c = rw (← c.record_in.ensures, c.in-Err.is) (refl, refl)
