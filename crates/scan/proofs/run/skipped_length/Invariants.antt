use Rattle.scan.specs.Step.{skipped_length}
use mathlib.Core.Path.{◌≡◌}
use Prim.Native.Nat.{◌+◌}
use lib.ListN.{drop}
use Rattle.scan.proofs.run.skipped_length.Given as goal

-- `run::skipped_length` meets its contract: the loop has passed i bytes that are skipped. Assumes nothing.
abbrev pub invariant-loop-i : goal.invariant-loop-i
invariant-loop-i l = skipped_length l.s ≡ l.i + skipped_length (drop l.i l.s)
