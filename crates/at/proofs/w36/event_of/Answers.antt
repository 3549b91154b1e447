use Prim.Native.Nat.{zero-le}
use native.Mathlib.Omega.{arith}
use Rattle.at.specs.Parts.{row_no}
use Rattle.at.specs.Steps.{values_of}
use Rattle.at.specs.W36.{table}
use Rattle.at.proofs.TableLaws.{none_of}
use Rattle.at.proofs.w36.event_of.Goals as goal

-- `w36::event_of` meets its contract: each row names its case. Assumes nothing.
pub returns-in_default : goal.returns-in_default
unfolding table
returns-in_default c = λ h. let n = none_of _ 0 13 zero-le c.in_default.in_default-own.rest in absurd (omega (arith, h, n))

pub returns-in-0 : goal.returns-in-0
unfolding row_no values_of table
returns-in-0 c = λ h. rw (c.in-0.is, c.byte.ensures)

pub returns-in-1 : goal.returns-in-1
unfolding row_no values_of table
returns-in-1 c = λ h. rw (c.in-1.is, c.byte.ensures)

pub returns-in-2 : goal.returns-in-2
unfolding row_no values_of table
returns-in-2 c = λ h. rw (c.in-2.is, c.byte.ensures, c.word-number.ensures)

pub returns-in-3 : goal.returns-in-3
unfolding row_no values_of table
returns-in-3 c = λ h. rw (c.in-3.is, c.word-wlan_handle.ensures, c.word-channel.ensures, c.text-bssid.ensures)

pub returns-in-4 : goal.returns-in-4
unfolding row_no values_of table
returns-in-4 c = λ h. rw (c.in-4.is, c.word-wlan_handle.ensures, c.word-number.ensures)

pub returns-in-5 : goal.returns-in-5
unfolding row_no values_of table
returns-in-5 c = λ h. rw (c.in-5.is, c.text-mac_addr.ensures)

pub returns-in-6 : goal.returns-in-6
unfolding row_no values_of table
returns-in-6 c = λ h. rw (c.in-6.is, c.text-mac_addr.ensures)

pub returns-in-7 : goal.returns-in-7
unfolding row_no values_of table
returns-in-7 c = λ h. rw c.in-7.is

pub returns-in-8 : goal.returns-in-8
unfolding row_no values_of table
returns-in-8 c = λ h. rw c.in-8.is

pub returns-in-9 : goal.returns-in-9
unfolding row_no values_of table
returns-in-9 c = λ h. rw c.in-9.is

pub returns-in-10 : goal.returns-in-10
unfolding row_no values_of table
returns-in-10 c = λ h. rw c.in-10.is

pub returns-in-11 : goal.returns-in-11
unfolding row_no values_of table
returns-in-11 c = λ h. rw c.in-11.is

pub returns-in-12 : goal.returns-in-12
unfolding row_no values_of table
returns-in-12 c = λ h. rw c.in-12.is
