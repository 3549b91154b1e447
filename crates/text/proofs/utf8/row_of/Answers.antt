use native.Mathlib.Omega.{arith}
use lib.Dec.{lit≤}
use Rattle.text.specs.Utf8.{table}
use Rattle.text.proofs.Utf8Laws.{ascii, stray, two, threes, four, past}
use Rattle.text.proofs.utf8.row_of.Goals as goal
use Rattle.text.proofs.utf8.row_of.Goals.{in_default-via-then-b-lt194, in_default-via-else-b-lt194+else-b-lt224+else-b-lt240+else-b-lt244}

pub returns-in-224 : goal.returns-in-224
unfolding table
returns-in-224 c = rw c.asking.ensures (lit≤ tt, λ t. rw c.in-224.is)

pub returns-in-237 : goal.returns-in-237
unfolding table
returns-in-237 c = rw c.asking-in-237.ensures (lit≤ tt, λ t. rw c.in-237.is)

pub returns-in-240 : goal.returns-in-240
unfolding table
returns-in-240 c = rw c.asking-in-240.ensures (lit≤ tt, λ t. rw c.in-240.is)

pub returns-in-244 : goal.returns-in-244
unfolding table
returns-in-244 c = rw c.asking-in-244.ensures (lit≤ tt, λ t. rw c.in-244.is)

pub returns-in-0-to-127 : goal.returns-in-0-to-127
returns-in-0-to-127 c = rw c.asking-in-0-to-127.ensures (lit≤ tt, λ t. ascii c.args.b t (omega arith))

pub returns-in-194-to-223 : goal.returns-in-194-to-223
returns-in-194-to-223 c = rw c.asking-in-194-to-223.ensures (lit≤ tt, λ t. two c.args.b t (omega arith) (omega arith))

pub returns-in-225-to-236 : goal.returns-in-225-to-236
returns-in-225-to-236 c = rw c.asking-in-225-to-236.ensures (lit≤ tt, λ t. threes c.args.b t (omega arith) (omega arith) (omega arith) (omega arith))

pub returns-in-241-to-243 : goal.returns-in-241-to-243
returns-in-241-to-243 c = rw c.asking-in-241-to-243.ensures (lit≤ tt, λ t. four c.args.b t (omega arith) (omega arith))

pub returns-in_default : goal.returns-in_default
returns-in_default c =
    rw c.asking-in_default.ensures (
      lit≤ tt,
      λ t. elim c.in_default.branch [
        | in_default-via-then-b-lt194 w ↦ stray c.args.b t (omega arith) (omega arith)
        | in_default-via-else-b-lt194+else-b-lt224+else-b-lt240+else-b-lt244 w ↦ past c.args.b t (omega arith)
      ],
    )
