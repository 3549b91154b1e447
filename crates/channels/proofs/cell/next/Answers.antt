use mathlib.Core.Path.{sym}
use mathlib.Core.Bool.{true, false}
use Rattle.channels.proofs.CellLaws.{connected, disconnected, had_data, unchanged, was_refused}
use Rattle.channels.proofs.cell.next.Goals as goal

-- `cell::next` meets its contract. Assumes nothing.
pub returns-then-is_closed : goal.returns-then-is_closed
returns-then-is_closed c = rw c.in-Connect.is (sym (connected _ _ true c.if-is_closed.true-raw _))

pub returns-else-is_closed : goal.returns-else-is_closed
returns-else-is_closed c = rw (c.in-Connect.is, c.up.ensures) (sym (connected _ _ false c.if-is_closed.false-raw _))

pub returns-then-is_closed-2 : goal.returns-then-is_closed-2
returns-then-is_closed-2 c = rw (c.in-Disconnect.is, c.up-then-is_closed-2.ensures) (sym (disconnected _ _ true c.if-is_closed-2.true-raw))

pub returns-else-is_closed-2 : goal.returns-else-is_closed-2
returns-else-is_closed-2 c = rw c.in-Disconnect.is (sym (disconnected _ _ false c.if-is_closed-2.false-raw))

pub returns-then-is_closed-3 : goal.returns-then-is_closed-3
returns-then-is_closed-3 c = rw (c.in-Data.is, c.up-then-is_closed-3.ensures) (sym (had_data _ _ true c.if-is_closed-3.true-raw))

pub returns-else-is_closed-3 : goal.returns-else-is_closed-3
returns-else-is_closed-3 c = rw c.in-Data.is (sym (had_data _ _ false c.if-is_closed-3.false-raw))

pub returns-in-Other : goal.returns-in-Other
returns-in-Other c = rw c.in-Other.is (sym (unchanged _))

pub returns-in-Refused : goal.returns-in-Refused
returns-in-Refused c = rw (c.in-Refused.is, c.up-in-Refused.ensures) (sym (was_refused _))
