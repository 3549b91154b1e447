use mathlib.Core.Path.{◌≡◌, refl, sym, ap, ◌∙◌}
use Rattle.at.specs.Refusal.{good, refused}
use Rattle.edm.specs.Refusal.{refusal_of}
use Rattle.edm.specs.Packet.{packet_of, shown}
use Rattle.edm.specs.Frame.{read_frame}
use Rattle.edm.proofs.WhyPrograms.{frame-seven}
use Rattle.abi.specs.Row.{packet_numbers, handed}
use Rattle.abi.proofs.CodeLaws.{frame_known}
use Rattle.abi.proofs.ReadLaws.{refusal_numbers_lem, answered}
use Rattle.abi.proofs.read.frame_into.Goals as goal

-- `read::frame_into` meets its contract. Assumes nothing.
pub returns-in-Ok : goal.returns-in-Ok
returns-in-Ok c =
    answered packet_numbers (read_frame c.args.s.now) (good (packet_of c.in-Ok.p)) 0 c.args.row.now _ (sym c.read.ensures ∙ ap shown c.in-Ok.is) (refl, c.hand_packet.ensures)

pub returns-in-Err : goal.returns-in-Err
returns-in-Err c =
    let s = c.args.s.now in
    let e = c.in-Err.e in
    let o : read_frame s ≡ refused (refusal_of e) = sym c.read.ensures ∙ ap shown c.in-Err.is in
    let why = c.of_frame-why.ensures in
    let row = c.args.row.now in
    let numbers = refusal_numbers_lem (refusal_of e) _ (frame_known e) (rw o at (frame-seven s)) why in
    answered packet_numbers (read_frame s) (refused (refusal_of e)) _ row _ o (why, c.hand_refusal.ensures ∙ ap (handed row) numbers)
