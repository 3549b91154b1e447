use Rattle.at.specs.Event.{num}
use Rattle.render.specs.Words.{number_word}
use Rattle.render.proofs.PrintLaws.{◌next◌}
use Rattle.render.proofs.FieldLaws.{prints-first}
use Rattle.render.proofs.frame.packet.Goals as goal

-- `frame::packet` meets its contract. Assumes nothing.
pub returns-in-DisconnectEvent : goal.returns-in-DisconnectEvent
unfolding number_word
returns-in-DisconnectEvent c = rw c.in-DisconnectEvent.is
    (prints-first _ c.args.src.now (num c.in-DisconnectEvent.channel.0) c.word-at.ensures c.number_after.ensures)

pub returns-in-ATResponse : goal.returns-in-ATResponse
returns-in-ATResponse c = rw c.in-ATResponse.is (c.word-at-in-ATResponse.ensures next c.response.ensures)

pub returns-in-ATEvent : goal.returns-in-ATEvent
returns-in-ATEvent c = rw c.in-ATEvent.is (c.word-at-in-ATEvent.ensures next c.print.ensures)
