use Rattle.std.proofs.Common.{◌≡◌, ◌-◌, length, take, drop, ◌∙◌, arith, length-take-le, le-leb}
use borrow.Author.Tests.{lt-leb}
use Rattle.replay.proofs.answer.write_within.Goals as goal

-- `write_within` meets its contract.
pub returns-then-size-target : goal.returns-then-size-target
returns-then-size-target c = let size = c.args.size in
    let t = c.args.target.now in
    let n : length (take (size - 0) (drop 0 t)) ≡ size = length-take-le (size - 0) t (omega arith) ∙ omega arith in
    rw (le-leb size _ c.if-size-target.true) (rw n at c.write.ensures)

pub returns-else-size-target : goal.returns-else-size-target
returns-else-size-target c = rw (lt-leb c.args.size _ c.if-size-target.false) c.word.ensures
