use mathlib.Core.Path.{sym}
use native.Mathlib.Omega.{arith}
use lib.ListN.{drop_of_length-le}
use Rattle.text.specs.Utf8.{seq_len}
use Rattle.text.proofs.Utf8Laws.{seq_short, seq_first-no, seq_rest-no, seq_whole}
use Rattle.text.proofs.utf8.sequence.Goals as goal
use Rattle.text.proofs.utf8.sequence.Goals.{else-byte_in-via-then-byte_in+else-goes_on, else-byte_in-via-else-byte_in}

pub returns-then-s-i : goal.returns-then-s-i
unfolding seq_len
returns-then-s-i c = rw (drop_of_length-le c.args.s.now c.if-s-i.true)

pub returns-then-row-lt2 : goal.returns-then-row-lt2
returns-then-row-lt2 c = sym (seq_short c.args.s.now c.args.i _ _ _ c.if-s-i.false c.row_of-row.ensures.1 c.if-row-lt2.true)

pub returns-then-goes_on : goal.returns-then-goes_on
returns-then-goes_on c = sym (seq_whole c.args.s.now c.args.i _ _ _ (omega arith) c.row_of-row.ensures.1 c.if-row-lt2.false _ c.byte_in.ensures c.if-byte_in.true _ c.goes_on.ensures c.if-goes_on.true)

pub returns-else-byte_in : goal.returns-else-byte_in
returns-else-byte_in c =
    elim c.else-byte_in.branch [
      | else-byte_in-via-then-byte_in+else-goes_on w ↦ sym (seq_rest-no c.args.s.now c.args.i _ _ _ (omega arith) c.row_of-row.ensures.1 c.if-row-lt2.false _ c.byte_in.ensures w.if-byte_in.true _ w.goes_on.ensures w.if-goes_on.false)
      | else-byte_in-via-else-byte_in w ↦ sym (seq_first-no c.args.s.now c.args.i _ _ _ (omega arith) c.row_of-row.ensures.1 c.if-row-lt2.false _ c.byte_in.ensures w.if-byte_in.false)
    ]
