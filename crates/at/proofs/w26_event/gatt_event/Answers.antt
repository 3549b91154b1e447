use native.Mathlib.Omega.{arith}
use Rattle.at.specs.Parts.{row_no}
use Rattle.at.specs.Steps.{values_of}
use Rattle.at.specs.W26.{table}
use Rattle.at.proofs.TableLaws.{none_of}
use Rattle.at.proofs.w26_event.gatt_event.Goals as goal

-- `w26_event::gatt_event` meets its contract: each row names its case. Assumes nothing.
pub returns-in_default : goal.returns-in_default
unfolding table
returns-in_default c = λ g h. let n = none_of _ 20 6 g c.in_default.in_default-own.rest in absurd (omega (arith, h, n))

pub returns-in-20 : goal.returns-in-20
unfolding row_no values_of table
returns-in-20 c = λ g h. rw (c.in-20.is, c.word-link.ensures, c.word-attribute.ensures)

pub returns-in-21 : goal.returns-in-21
unfolding row_no values_of table
returns-in-21 c = λ g h. rw (c.in-21.is, c.word-link.ensures, c.word-attribute.ensures, c.byte-options.ensures, c.text-data.ensures)

pub returns-in-22 : goal.returns-in-22
unfolding row_no values_of table
returns-in-22 c = λ g h. rw (c.in-22.is, c.word-link.ensures, c.word-attribute.ensures)

pub returns-in-23 : goal.returns-in-23
unfolding row_no values_of table
returns-in-23 c = λ g h. rw (c.in-23.is, c.word-link.ensures, c.word-attribute.ensures, c.text-data.ensures)

pub returns-in-24 : goal.returns-in-24
unfolding row_no values_of table
returns-in-24 c = λ g h. rw (c.in-24.is, c.word-link.ensures, c.word-attribute.ensures, c.text-data.ensures)

pub returns-in-25 : goal.returns-in-25
unfolding row_no values_of table
returns-in-25 c = λ g h. rw (c.in-25.is, c.bluetooth_peer.ensures)
