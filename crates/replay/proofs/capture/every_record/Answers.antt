use Rattle.std.proofs.Common.{sym, ap, ◌∙◌}
use Rattle.pcap.specs.Refusal.{refusal_no}
use Rattle.pcap.specs.Read.{header_shown}
use Rattle.replay.proofs.CaptureLaws.{file_headed, file_unheaded}
use Rattle.replay.proofs.capture.every_record.Goals as goal

-- `every_record` meets its contract.
pub returns-in-Ok : goal.returns-in-Ok
returns-in-Ok c =
    let h = c.in-Ok.header in
    rw (file_headed c.args.src.now h.order h.is_ours (ap header_shown (sym c.in-Ok.is) ∙ c.read_header.ensures)) c.records.ensures

pub returns-in-Err : goal.returns-in-Err
returns-in-Err c =
    rw (file_unheaded c.args.src.now (refusal_no c.in-Err.e) (ap header_shown (sym c.in-Err.is) ∙ c.read_header.ensures)) c.refused_at.ensures
