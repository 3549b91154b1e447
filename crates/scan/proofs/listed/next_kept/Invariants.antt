use mathlib.Core.Path.{◌≡◌}
use Rattle.scan.specs.Listed.{next_kept}
use Rattle.scan.proofs.listed.next_kept.Given as goal

abbrev pub invariant-loop-at : goal.invariant-loop-at
invariant-loop-at l = next_kept l.list l.count l.i ≡ next_kept l.list l.count l.at
