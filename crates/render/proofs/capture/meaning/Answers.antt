use Rattle.render.specs.Capture.{meaning_line}
use Rattle.render.proofs.PrintLaws.{◌next◌}
use Rattle.render.proofs.capture.meaning.Goals as goal

-- `capture::meaning` meets its contract. Assumes nothing.
pub returns : goal.returns
unfolding meaning_line
returns c =
    let means = rw c.read.ensures at c.answer.ensures in
    c.time-at.ensures next c.word-at.ensures next c.hex-at.ensures next c.word-at-2.ensures next means
