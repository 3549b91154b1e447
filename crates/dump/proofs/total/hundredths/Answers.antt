use Rattle.std.proofs.Common.{eq-eqb, ne_eqb, le-leb, arith}
use borrow.Author.Tests.{lt-leb}
use Rattle.dump.specs.Total.{hundredths}
use Rattle.dump.proofs.total.hundredths.Goals as goal

-- `total::hundredths` meets its contract. Assumes nothing.
pub returns-then-whole-eq0 : goal.returns-then-whole-eq0
unfolding hundredths
returns-then-whole-eq0 c = rw (eq-eqb c.args.whole 0 c.if-whole-eq0.true)

pub returns-in-Some : goal.returns-in-Some
unfolding hundredths
returns-in-Some c =
    let a = c.args in
    let e = c.in-Some.ensures in
    rw (ne_eqb a.whole 0 c.if-whole-eq0.false, le-leb a.part 1844674407370955 (omega (arith, e.0)), e.1)

pub returns-in-None : goal.returns-in-None
unfolding hundredths
returns-in-None c =
    let a = c.args in
    rw (ne_eqb a.whole 0 c.if-whole-eq0.false, lt-leb a.part 1844674407370955 (omega (arith, c.in-None.ensures)))
