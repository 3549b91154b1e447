use Rattle.text.specs.Bytes.{part}
use Rattle.judge.proofs.JudgementLaws.{judged}
use native.Mathlib.Omega.{arith}
use Rattle.judge.proofs.judge.Goals as goal

-- `judge` meets its contract: the line and its end are printed one after the other, and there is room. Assumes nothing.
pub returns : goal.returns
unfolding part
returns c =
    let printed = rw (c.read.ensures, c.part-frame.ensures) at c.answer-end.ensures in
    judged c.args.input.now (λ i. omega (arith, c.shared_slice_known-1.given i)) c.requires printed c.word.ensures
