use borrow.Author.Tests.{eq-eqb, ne_eqb}
use Rattle.at.specs.Steps.{kind_of}
use Rattle.abi.proofs.given.fits.Goals as goal

-- `given::fits` meets its contract. Assumes nothing.
pub returns-in-98 : goal.returns-in-98
unfolding kind_of
returns-in-98 c = rw c.in-98.is

pub returns-in-119 : goal.returns-in-119
unfolding kind_of
returns-in-119 c = rw c.in-119.is

pub returns-in-108 : goal.returns-in-108
unfolding kind_of
returns-in-108 c = rw c.in-108.is

pub returns-then-n-eq2 : goal.returns-then-n-eq2
unfolding kind_of
returns-then-n-eq2 c = rw (c.in-105.is, eq-eqb _ 2 c.if-n-eq2.true)

pub returns-else-n-eq2 : goal.returns-else-n-eq2
unfolding kind_of
returns-else-n-eq2 c = rw (c.in-105.is, ne_eqb _ 2 c.if-n-eq2.false)

pub returns-in-116 : goal.returns-in-116
unfolding kind_of
returns-in-116 c = rw c.in-116.is

pub returns-in-112 : goal.returns-in-112
unfolding kind_of
returns-in-112 c = rw c.in-112.is c.is_protocol.ensures

pub returns-in-114 : goal.returns-in-114
unfolding kind_of
returns-in-114 c = rw c.in-114.is

pub returns-in_default : goal.returns-in_default
unfolding kind_of
returns-in_default c =
    let m = c.in_default.in_default-own.rest in
    rw (ne_eqb _ 98 m.0.0.0.0.0.0.1, ne_eqb _ 119 m.0.0.0.0.0.1, ne_eqb _ 108 m.0.0.0.0.1, ne_eqb _ 105 m.0.0.0.1, ne_eqb _ 116 m.0.0.1, ne_eqb _ 112 m.0.1, ne_eqb _ 114 m.1)
