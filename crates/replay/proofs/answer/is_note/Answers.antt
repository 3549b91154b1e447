use Rattle.replay.specs.Reply.{is_note}
use Rattle.replay.proofs.ReplyLaws.{all-every}
use Rattle.replay.proofs.answer.is_note.Goals as goal

-- `is_note` meets its contract.
pub returns-then-starts_at : goal.returns-then-starts_at
unfolding is_note
returns-then-starts_at c = rw (← c.starts_at.ensures, c.if-starts_at.true)

pub returns-else-starts_at : goal.returns-else-starts_at
unfolding is_note
returns-else-starts_at c = rw (← c.starts_at.ensures, c.if-starts_at.false, ← all-every _ c.args.line.now) c.is_blank.ensures
