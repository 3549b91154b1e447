use borrow.Author.Tests.{ne_eqb}
use Rattle.at.specs.Event.{read_field}
use Rattle.at.specs.Steps.{kind_of}
use Rattle.at.proofs.field.field_of.Goals as goal

-- `field::field_of` meets its contract: each letter has its kind. Assumes nothing.
pub returns-in_default : goal.returns-in_default
unfolding kind_of read_field
returns-in_default c i =
    let r = c.in_default.in_default-own.rest in
    rw (ne_eqb _ 98 r.0.0.0.0.0.0.1, ne_eqb _ 119 r.0.0.0.0.0.1, ne_eqb _ 108 r.0.0.0.0.1, ne_eqb _ 105 r.0.0.0.1, ne_eqb _ 116 r.0.0.1, ne_eqb _ 112 r.0.1, ne_eqb _ 114 r.1)

pub returns-in-98 : goal.returns-in-98
unfolding kind_of
returns-in-98 c = λ i. rw c.in-98.is (c.number_field.ensures i _)

pub returns-in-119 : goal.returns-in-119
unfolding kind_of
returns-in-119 c = λ i. rw c.in-119.is (c.number_field-in-119.ensures i _)

pub returns-in-108 : goal.returns-in-108
unfolding kind_of
returns-in-108 c = λ i. rw c.in-108.is (c.number_field-in-108.ensures i _)

pub returns-in-105 : goal.returns-in-105
unfolding kind_of
returns-in-105 c = λ i. rw c.in-105.is (c.ip_type_field.ensures i _)

pub returns-in-116 : goal.returns-in-116
unfolding kind_of
returns-in-116 c = λ i. rw c.in-116.is (c.bt_type_field.ensures i _)

pub returns-in-112 : goal.returns-in-112
unfolding kind_of
returns-in-112 c = λ i. rw c.in-112.is (c.protocol_field.ensures i _)

pub returns-in-114 : goal.returns-in-114
unfolding kind_of
returns-in-114 c = λ i. rw c.in-114.is (c.reason_field.ensures i _)
