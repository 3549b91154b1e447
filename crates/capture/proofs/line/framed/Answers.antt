use Rattle.std.proofs.Common.{sym, ◌∙◌}
use Rattle.lines.specs.Hex.{bytes_in}
use Rattle.capture.proofs.LineLaws.{framed-bytes}
use Rattle.capture.proofs.line.framed.Goals as goal

-- `line::framed` meets its contract. Assumes nothing.
pub returns : goal.returns
returns c =
    framed-bytes c.args.at.seconds c.args.at.microseconds c.args.frame.now c.decode.new.bytes c.requires (bytes_in c.args.hex.now) c.in_ok-len.len (sym c.in_ok-len.was ∙ c.decode.ensures.0) c.decode.ensures.1
