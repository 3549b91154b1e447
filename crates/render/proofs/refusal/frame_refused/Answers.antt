use borrow.Author.Tests.{lt-ltb, le-ltb}
use Rattle.render.specs.Refusal.{refused_line, frame_refused_line}
use Rattle.render.proofs.PrintLaws.{◌next◌}
use Rattle.render.proofs.refusal.frame_refused.Goals as goal

-- `refusal::frame_refused` meets its contract. Assumes nothing.
pub returns-then-n-gt10 : goal.returns-then-n-gt10
unfolding frame_refused_line
returns-then-n-gt10 c =
    rw (lt-ltb 10 _ c.if-n-gt10.true) (c.word-at.ensures next (rw c.refusal_name.ensures at c.word.ensures))

pub returns-else-n-gt10 : goal.returns-else-n-gt10
unfolding frame_refused_line refused_line
returns-else-n-gt10 c = rw (le-ltb 10 _ c.if-n-gt10.false) c.refused.ensures
