use native.Mathlib.Omega.{arith}
use Rattle.render.proofs.FrameRoom.{frame-room}
use Rattle.commission.proofs.answer.feed.Goals as goal

-- `answer::feed` meets its contract. Assumes nothing.
pub returns : goal.returns
returns c =
    let s = c.args.s.now in
    record {
      prints = rw c.read.ensures at c.answer.ensures;
      few = omega (arith, c.requires, frame-room s (λ i. omega (arith, c.shared_slice_known-1.given i)));
      leads = c.feed.ensures;
    }
