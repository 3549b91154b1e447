use native.Mathlib.Omega.{arith}
use Rattle.lines.proofs.CutLaws.{cut-shorter}
use Rattle.commission.proofs.question.with_rest.Goals as goal

-- `question::with_rest` meets its contract. Assumes nothing.
pub returns-in_err-word : goal.returns-in_err-word
returns-in_err-word c = rw (c.from_residual.ensures, ← c.cut_at.ensures, c.in_err-word.was)

pub frame_in-requires : goal.frame_in-requires
frame_in-requires c = omega (arith, c.requires, cut-shorter _ _ _ _ (rw c.in_ok-word.was at c.cut_at.ensures))

pub returns-then-same : goal.returns-then-same
returns-then-same c = rw (← c.cut_at.ensures, c.in_ok-word.was, ← c.same.ensures, c.if-same.true) c.frame_in.ensures

pub returns-then-same-2 : goal.returns-then-same-2
returns-then-same-2 c = rw (← c.cut_at.ensures, c.in_ok-word.was, ← c.same.ensures, c.if-same.false, ← c.same-2.ensures, c.if-same-2.true) (c.channel_in.ensures c.args.frame.now)

pub returns : goal.returns
returns c = rw (← c.cut_at.ensures, c.in_ok-word.was, ← c.same.ensures, c.if-same.false, ← c.same-2.ensures, c.if-same-2.false)
