use Rattle.std.proofs.Common.{◌≡◌, ℕ, ◌+◌, length, sym, ap, ◌∙◌, arith}
use Rattle.pcap.specs.Layout.{record_bytes}
use Rattle.pcap.specs.Write.{shown}
use Rattle.pcap.specs.declared.ByteOrder.TheVariants.{Little}
use Rattle.pcap.proofs.Programs.{record_wrote-few}
use Rattle.capture.proofs.WriteLaws.{put-answer, put_there}
use Rattle.capture.proofs.write.put_record.Goals as goal

-- `write::put_record` meets its contract. A record has at most 4,115 bytes. Assumes nothing.
pub overflow_add-result : goal.overflow_add-result
overflow_add-result c =
    omega (arith, record_wrote-few _ _ _ _ c.in-Ok.n (ap shown (sym c.in-Ok.is) ∙ c.write_record.ensures.answers))

pub returns-in-Ok : goal.returns-in-Ok
returns-in-Ok c =
    let p = c.requires in
    let g = c.args in
    let answer = put-answer g.output.now g.frame.now g.at g.time.seconds g.time.microseconds c.write_record.result c.write_record.new.buf p.2 p.3 (omega (arith, p.0, p.1)) c.write_record.ensures in
    let e = ap shown (sym c.in-Ok.is) ∙ answer in
    let count : c.in-Ok.n ≡ length (record_bytes Little g.time.seconds g.time.microseconds g.frame.now) = cc in
    (ap (λ (i : ℕ). g.at + i) count, put_there g.output.now g.frame.now g.at g.time.seconds g.time.microseconds c.write_record.result c.write_record.new.buf p.2 p.3 (omega (arith, p.0, p.1)) c.write_record.ensures)

pub returns-in-Err : goal.returns-in-Err
returns-in-Err c =
    let p = c.requires in
    let g = c.args in
    let answer = put-answer g.output.now g.frame.now g.at g.time.seconds g.time.microseconds c.write_record.result c.write_record.new.buf p.2 p.3 (omega (arith, p.0, p.1)) c.write_record.ensures in
    let e = ap shown (sym c.in-Err.is) ∙ answer in
    let z : ◌≡◌ {A = ℕ} 0 1 = cc in
    absurd (omega arith)
