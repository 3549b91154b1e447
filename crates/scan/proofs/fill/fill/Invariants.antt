use Rattle.scan.specs.Step.{ranges_of}
use Rattle.scan.proofs.FillLaws.{Filling}
use Rattle.scan.proofs.fill.fill.Given as goal

-- `fill::fill` meets its contract: the loop's invariant is `Filling`. Assumes nothing.
abbrev pub invariant-loop-r : goal.invariant-loop-r
invariant-loop-r l =
    record {
      goes : (goal.iterator-loop-r).can_next l.r-iterator;
      ends : (goal.iterator-loop-r).is_finite l.r-iterator;
      filling : Filling l.dump l.initial.list l.list l.i l.at (ranges_of l.r-iterator.left.now);
    }
