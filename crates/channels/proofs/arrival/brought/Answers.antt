use Rattle.channels.proofs.arrival.brought.Goals as goal

-- `arrival::brought` meets its contract. Assumes nothing.
pub returns-in-ConnectEvent : goal.returns-in-ConnectEvent
returns-in-ConnectEvent c = rw (c.number.ensures, c.part.ensures, c.in-Ok.is, c.in-ConnectEvent.is)

pub returns-in-DisconnectEvent : goal.returns-in-DisconnectEvent
returns-in-DisconnectEvent c = rw (c.in-Ok.is, c.in-DisconnectEvent.is)

pub returns-in-DataEvent : goal.returns-in-DataEvent
returns-in-DataEvent c = rw (c.in-Ok.is, c.in-DataEvent.is)
