use Rattle.render.proofs.PrintLaws.{◌next◌}
use Rattle.render.proofs.capture.record.Goals as goal

-- `capture::record` meets its contract. Assumes nothing.
pub returns : goal.returns
returns c = c.time-at.ensures next c.place_after-at.ensures next c.word-at.ensures next c.number.ensures
