use Rattle.std.proofs.Common.{◌≡◌, ℕ, ◌≤◌, List, ◌++◌, length, drop}
use Rattle.scan.specs.Cut.{Piece, rows}
use Rattle.scan.proofs.Rows.{start_of}
use Rattle.render.specs.Print.{Prints}
use Rattle.render.specs.Range.{more_line}
use Rattle.replay.proofs.dump.ranges.Given as goal

-- `ranges` meets its contract: what completes the ranges from one on completes the whole.
abbrev pub invariant-loop-i : goal.invariant-loop-i
invariant-loop-i l =
    (length l.output ≡ length l.initial.output)
    × (l.i ≤ l.count)
    × ((ps : List Piece) (more : List ℕ) → l.list ≡ rows 0 ps ++ more → l.count ≡ length ps → (r : ℕ) (e : List ℕ)
    → Prints l.output l.to (more_line (start_of ps l.i) (drop l.i ps)) r e → Prints l.initial.output l.initial.to (more_line (start_of ps 1) (drop 1 ps)) r e)
