use Rattle.at.specs.Parts.{row_no}
use Rattle.at.specs.Steps.{values_of}
use Rattle.at.specs.W26.{table}
use Rattle.at.proofs.TableLaws.{none_of}
use Rattle.at.proofs.w26_event.bluetooth_event.Goals as goal

pub returns-in-13 : goal.returns-in-13
unfolding row_no values_of table
returns-in-13 c = λ g h. rw (c.in-13.is, c.word-handle.ensures, c.word-length.ensures)

pub returns-in-14 : goal.returns-in-14
unfolding row_no values_of table
returns-in-14 c = λ g h. rw (c.in-14.is, c.byte-code.ensures, c.text-address.ensures)

pub returns-in-15 : goal.returns-in-15
unfolding row_no values_of table
returns-in-15 c = λ g h. rw (c.in-15.is, c.long-number.ensures, c.text-address.ensures)

pub returns-in-16 : goal.returns-in-16
unfolding row_no values_of table
returns-in-16 c = λ g h. rw (c.in-16.is, c.long-number.ensures, c.text-address.ensures)

pub returns-in-17 : goal.returns-in-17
unfolding row_no values_of table
returns-in-17 c = λ g h. rw (c.in-17.is, c.text-address.ensures)

pub returns-in-18 : goal.returns-in-18
unfolding row_no values_of table
returns-in-18 c = λ g h. rw (c.in-18.is, c.word-handle.ensures, c.byte-code.ensures, c.text-remote.ensures)

pub returns-in-19 : goal.returns-in-19
unfolding row_no values_of table
returns-in-19 c = λ g h. rw (c.in-19.is, c.word-handle.ensures)

pub returns-in_default : goal.returns-in_default
unfolding row_no values_of table
returns-in_default c = λ g h. c.gatt_event.ensures (none_of _ 13 7 g c.in_default.in_default-own.rest) h
