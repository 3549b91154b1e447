use Rattle.render.proofs.PrintLaws.{◌next◌}
use Rattle.render.proofs.capture.time.Goals as goal

-- `capture::time` meets its contract. Assumes nothing.
pub returns : goal.returns
returns c = c.number-at.ensures next c.word-at.ensures next c.six_digits.ensures
