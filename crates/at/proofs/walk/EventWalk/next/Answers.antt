use lib.ListN.{length}
use borrow.Author.Tests.{lt-ltb, le-ltb}
use Rattle.at.specs.Walk.{step_at}
use Rattle.at.proofs.walk.EventWalk.next.Goals as goal

-- `walk::EventWalk::next` meets its contract: the end, or else the event that begins there. Assumes nothing.
pub returns-then-s-at : goal.returns-then-s-at
unfolding step_at
returns-then-s-at c = let a = c.args in
    rw (le-ltb a.self.at (length a.s.now) c.if-s-at.true)

pub returns-in-Ok : goal.returns-in-Ok
unfolding step_at
returns-in-Ok c = let a = c.args in
    rw (lt-ltb a.self.at (length a.s.now) c.if-s-at.false, ← c.event_at.ensures, c.in-Ok.is)

pub returns-in-Err : goal.returns-in-Err
unfolding step_at
returns-in-Err c = let a = c.args in
    rw (lt-ltb a.self.at (length a.s.now) c.if-s-at.false, ← c.event_at.ensures, c.in-Err.is)
