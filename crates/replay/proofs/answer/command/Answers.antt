use Rattle.render.specs.Refusal.{frame_refused_line}
use Rattle.replay.proofs.ReplyLaws.{written_line_lem, frame-written}
use Rattle.replay.proofs.answer.command.Goals as goal

-- `command` meets its contract.
pub returns : goal.returns
returns c = let wrote = c.write-a.ensures in
    rw (← written_line_lem frame_refused_line _ _ _ _ wrote.answers wrote.leaves, ← frame-written c.write-a.new.buf c.write-a.result) c.answer.ensures
