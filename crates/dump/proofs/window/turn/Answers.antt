use Rattle.std.proofs.Common.{arith}
use Rattle.dump.proofs.WindowLaws.{part-few}
use Rattle.dump.proofs.window.turn.Goals as goal

-- `window::turn` is safe: each buffer keeps its size. Assumes nothing.
pub window-r-requires : goal.window-r-requires
window-r-requires g c =
    let cut = c.part.ensures in
    (c.requires.2, rw cut (omega (arith, part-few c.read_full.new.input 0 c.in-Ok.n, c.in-Ok.ensures.fits, c.requires.0)), c.requires.1)
