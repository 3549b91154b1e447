use mathlib.Core.Path.{sym}
use borrow.Author.Tests.{eqb-true}
use Rattle.scan.proofs.FillLaws.{none_left}
use Rattle.scan.proofs.run.RangesIterator.next.Goals as goal

pub returns-then-is_empty-clause-steps : goal.returns-then-is_empty-clause-steps
returns-then-is_empty-clause-steps c = let e = none_left c.args.self.now.left.now (eqb-true _ 0 (sym c.if-is_empty.ensures)) in (e, e)
