use Rattle.render.specs.Refusal.{refused_line}
use Rattle.replay.proofs.ReplyLaws.{written_line_lem, event-written}
use Rattle.replay.proofs.answer.write_event.Goals as goal

-- `write_event` meets its contract.
pub returns : goal.returns
returns g c = let wrote = c.write-a.ensures in
    rw (← written_line_lem refused_line _ _ _ _ wrote.answers wrote.leaves, ← event-written c.write-a.new.buf c.write-a.result) c.answer.ensures
