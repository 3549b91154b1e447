use Rattle.std.proofs.Common.{arith}
use Rattle.render.proofs.PrintLaws.{prints_then, prints-whole}
use Rattle.capture.specs.Record.{record_line}
use Rattle.capture.proofs.ReadLaws.{line_room}
use Rattle.capture.proofs.read.line.Goals as goal

-- `read::line` meets its contract: the output has room for the longest line. Assumes nothing.
pub returns : goal.returns
unfolding record_line
returns c =
    let room = line_room c.args.seconds c.args.microseconds c.args.frame.now (omega arith) (λ i. omega (arith, c.shared_slice_known-1.given i)) c.requires.2 in
    prints-whole (prints_then c.meaning-next.ensures c.word.ensures) (omega (arith, c.requires.0, c.requires.1, room))
