use Rattle.std.proofs.lemmas.List.{take_more}
use Rattle.render.proofs.PrintLaws.{prints_then, prints-none}
use Rattle.render.proofs.word.word.Goals as goal

-- `word::word` meets its contract. Assumes nothing.
pub loop-b-init : goal.loop-b-init
loop-b-init c = prints-none _ _

pub loop-b-preserved : goal.loop-b-preserved
loop-b-preserved c =
    let l = c.loop-b in
    rw (take_more c.args.s.now l.b-index 0 c.loop-b-test.true) (prints_then l.invariant c.byte-to.ensures)
