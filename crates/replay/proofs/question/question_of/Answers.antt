use Rattle.replay.specs.Question.{asked}
use Rattle.replay.proofs.question.question_of.Goals as goal

-- `question_of` meets its contract.
pub returns-in_err-word : goal.returns-in_err-word
unfolding asked
returns-in_err-word c = rw (c.from_residual.ensures, ← c.cut_at.ensures, c.in_err-word.was)

pub returns-in_err-reader : goal.returns-in_err-reader
unfolding asked
returns-in_err-reader c = rw (c.from_residual-in_err-reader.ensures, ← c.cut_at.ensures, c.in_ok-word.was, ← c.kind_of.ensures, c.in_err-reader.was)

pub returns-in-Read : goal.returns-in-Read
unfolding asked
returns-in-Read c = rw (← c.cut_at.ensures, c.in_ok-word.was, ← c.kind_of.ensures, c.in_ok-reader.was, c.in-Read.is)

pub returns-in-Write : goal.returns-in-Write
unfolding asked
returns-in-Write c = rw (← c.cut_at.ensures, c.in_ok-word.was, ← c.kind_of.ensures, c.in_ok-reader.was, c.in-Write.is) c.with_size.ensures

pub returns-in-Data : goal.returns-in-Data
unfolding asked
returns-in-Data c = rw (← c.cut_at.ensures, c.in_ok-word.was, ← c.kind_of.ensures, c.in_ok-reader.was, c.in-Data.is) c.with_channel.ensures

pub returns-in-Resend : goal.returns-in-Resend
unfolding asked
returns-in-Resend c = rw (← c.cut_at.ensures, c.in_ok-word.was, ← c.kind_of.ensures, c.in_ok-reader.was, c.in-Resend.is) c.with_size_alone.ensures

pub returns-in-Explain : goal.returns-in-Explain
unfolding asked
returns-in-Explain c = rw (← c.cut_at.ensures, c.in_ok-word.was, ← c.kind_of.ensures, c.in_ok-reader.was, c.in-Explain.is) c.with_kind.ensures
