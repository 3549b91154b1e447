use Prim.Native.Nat.{zero-le}
use Rattle.at.specs.Parts.{row_no}
use Rattle.at.specs.Steps.{values_of}
use Rattle.at.specs.W26.{table}
use Rattle.at.proofs.TableLaws.{none_of}
use Rattle.at.proofs.w26_event.event_of.Goals as goal

pub returns-in-0 : goal.returns-in-0
unfolding row_no values_of table
returns-in-0 c = λ h. rw (c.in-0.is, c.peer_connected.ensures)

pub returns-in-1 : goal.returns-in-1
unfolding row_no values_of table
returns-in-1 c = λ h. rw (c.in-1.is, c.word-id.ensures)

pub returns-in-2 : goal.returns-in-2
unfolding row_no values_of table
returns-in-2 c = λ h. rw (c.in-2.is, c.word-id.ensures, c.word-channel.ensures, c.text-address.ensures)

pub returns-in-3 : goal.returns-in-3
unfolding row_no values_of table
returns-in-3 c = λ h. rw (c.in-3.is, c.word-id.ensures, c.reason_of.ensures)

pub returns-in-4 : goal.returns-in-4
unfolding row_no values_of table
returns-in-4 c = λ h. rw (c.in-4.is, c.word-id.ensures)

pub returns-in-5 : goal.returns-in-5
unfolding row_no values_of table
returns-in-5 c = λ h. rw (c.in-5.is, c.word-id.ensures)

pub returns-in-6 : goal.returns-in-6
unfolding row_no values_of table
returns-in-6 c = λ h. rw (c.in-6.is, c.word-id.ensures, c.text-address.ensures)

pub returns-in-7 : goal.returns-in-7
unfolding row_no values_of table
returns-in-7 c = λ h. rw (c.in-7.is, c.word-id.ensures)

pub returns-in-8 : goal.returns-in-8
unfolding row_no values_of table
returns-in-8 c = λ h. rw c.in-8.is

pub returns-in-9 : goal.returns-in-9
unfolding row_no values_of table
returns-in-9 c = λ h. rw c.in-9.is

pub returns-in-10 : goal.returns-in-10
unfolding row_no values_of table
returns-in-10 c = λ h. rw (c.in-10.is, c.word-id.ensures)

pub returns-in-11 : goal.returns-in-11
unfolding row_no values_of table
returns-in-11 c = λ h. rw (c.in-11.is, c.word-id.ensures)

pub returns-in-12 : goal.returns-in-12
unfolding row_no values_of table
returns-in-12 c = λ h. rw (c.in-12.is, c.word-id.ensures, c.word-code.ensures)

pub returns-in_default : goal.returns-in_default
unfolding row_no values_of table
returns-in_default c = λ h. c.bluetooth_event.ensures (none_of _ 0 13 zero-le c.in_default.in_default-own.rest) h
