use Rattle.scan.proofs.FillLaws.{filling_start, filling_more}
use Rattle.scan.proofs.fill.fill.Goals as goal

pub loop-r-init : goal.loop-r-init
loop-r-init c = record { goes = tt; ends = tt; filling = rw c.into_iter-r-iterator.ensures.into_iter_gives (filling_start c.args.dump.now c.args.list.now) }

pub loop-r-preserved : goal.loop-r-preserved
loop-r-preserved c =
    record {
      goes = tt;
      ends = tt;
      filling = filling_more _ _ _ _ _ c.in-Some.r _ _ (rw c.in-Some.ensures.steps at c.loop-r.invariant.filling) c.requires.1 (rw c.from.ensures at c.copy_from_slice.ensures.after);
    }
