use Rattle.std.proofs.Common.{arith}
use Rattle.replay.specs.Reply.{short_reply}
use Rattle.replay.proofs.AskedRoom.{asked_shorter}
use Rattle.replay.proofs.answer.answer.Goals as goal

-- `answer` meets its contract.
pub returns-then-is_note : goal.returns-then-is_note
unfolding short_reply
returns-then-is_note c = rw (← c.is_note.ensures, c.if-is_note.true) c.word.ensures

pub read_hex-requires : goal.read_hex-requires
read_hex-requires c = omega (arith, c.requires.0, rw (← c.question_of.ensures, c.in-Some.is, c.in-Read.is) at (asked_shorter c.args.line.now))

pub write_hex-requires : goal.write_hex-requires
write_hex-requires c = omega (arith, c.requires.0, rw (← c.question_of.ensures, c.in-Some.is, c.in-Write.is) at (asked_shorter c.args.line.now))

pub returns-in_default : goal.returns-in_default
unfolding short_reply
returns-in_default c = rw (← c.is_note.ensures, c.if-is_note.false, ← c.question_of.ensures, c.in_default.is) c.what.ensures

pub returns-in-Read : goal.returns-in-Read
unfolding short_reply
returns-in-Read c = rw (← c.is_note.ensures, c.if-is_note.false, ← c.question_of.ensures, c.in-Some.is, c.in-Read.is) c.read_hex.ensures

pub returns-in-Write : goal.returns-in-Write
unfolding short_reply
returns-in-Write c = rw (← c.is_note.ensures, c.if-is_note.false, ← c.question_of.ensures, c.in-Some.is, c.in-Write.is, ← c.requires.1) c.write_hex.ensures

pub returns-in-Resend : goal.returns-in-Resend
unfolding short_reply
returns-in-Resend c = rw (← c.is_note.ensures, c.if-is_note.false, ← c.question_of.ensures, c.in-Some.is, c.in-Resend.is, ← c.requires.1) c.write_within.ensures
