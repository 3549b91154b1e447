use Rattle.channels.proofs.arrival.read.Goals as goal

-- `arrival::read` meets its contract. Assumes nothing.
pub returns : goal.returns
returns c = rw (c.brought.ensures, c.read.ensures)
