use Rattle.channels.specs.View.{counts_of}
use Rattle.channels.specs.Steps.{arrival_of}
use Rattle.channels.specs.Machine.{step}
use Rattle.channels.proofs.FieldLaws.{fed_step}
use Rattle.channels.proofs.fields.fed.Goals as goal

-- `fields::fed` meets its contract. Assumes nothing.
pub returns : goal.returns
unfolding step
returns c =
    let t = c.args in
    let read = c.read-a in
    let i = c.from-i.ensures in
    let channel = c.channel_of.ensures in
    λ whole. rw (i, channel, ← read.ensures)
    (fed_step t.kind.now t.high.now t.low.now t.port.now (counts_of t.reopened.now t.reclosed.now t.stray.now t.refused.now) (arrival_of read.result) c.next-new.result whole (rw channel at c.channel_of.type_inv) (rw (i, channel) at c.next-new.ensures))
