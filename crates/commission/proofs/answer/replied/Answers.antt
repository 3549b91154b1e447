use mathlib.Core.Path.{refl}
use native.Mathlib.Omega.{arith}
use lib.ListN.{length-append, length-take}
use Rattle.text.specs.Bytes.{bytes, part}
use Rattle.channels.specs.View.{view}
use Rattle.commission.specs.Reply.{open_rows}
use Rattle.commission.proofs.answer.replied.Goals as goal

-- `answer::replied` meets its contract. Assumes nothing.
pub feed-requires : goal.feed-requires
unfolding part
feed-requires c = rw c.part.ensures (omega (arith, c.requires, length-take c.in-Frame.n c.args.frame.now))

pub returns-in-Frame : goal.returns-in-Frame
returns-in-Frame c = rw (c.in-Some.is, c.in-Frame.is, ← c.part.ensures) c.feed.ensures

pub returns-in-Row : goal.returns-in-Row
returns-in-Row c =
    let put = rw c.row.ensures at c.put_row.ensures in
    rw (c.in-Some.is, c.in-Row.is) (record { prints = put.0; few = omega (arith, put.1); leads = refl })

pub returns-in-Rows : goal.returns-in-Rows
returns-in-Rows c =
    let put = c.put_rows.ensures in
    rw (c.in-Some.is, c.in-Rows.is) (record { prints = put.0; few = omega (arith, put.1, length-append (open_rows (view c.args.table.now) 256) (bytes "end")); leads = refl })

pub returns-in-Counts : goal.returns-in-Counts
returns-in-Counts c =
    let put = rw c.counts.ensures at c.put_counts.ensures in
    rw (c.in-Some.is, c.in-Counts.is) (record { prints = put.0; few = omega (arith, put.1); leads = refl })

pub returns-in_default : goal.returns-in_default
returns-in_default c = rw c.in_default.is (record { prints = c.word.ensures; few = omega arith; leads = refl })
