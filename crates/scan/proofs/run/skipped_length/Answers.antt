use native.Mathlib.Omega.{arith}
use mathlib.Core.Path.{ap, ◌∙◌}
use lib.ListN.{length, drop}
use Rattle.std.specs.Prelude.{is_some}
use Rattle.std.proofs.lemmas.Slice.{between_to_end}
use Rattle.scan.specs.Step.{kept_length}
use Rattle.scan.proofs.RunLaws.{runs_here}
use Rattle.scan.proofs.CutLaws.{skips-stop, skips-end, skips-next}
use Rattle.scan.proofs.run.skipped_length.Goals as goal

pub returns-then-is_some : goal.returns-then-is_some
returns-then-is_some c =
    let s = c.args.s.now in
    let i = c.loop-i.i in
    let k = c.kept_length.ensures ∙ ap kept_length (between_to_end s i (length s) (omega arith)) in
    let z = skips-stop s i (runs_here (drop i s) _ (c.if-is_some.ensures ∙ ap is_some k)) in
    omega arith

pub loop-i-preserved : goal.loop-i-preserved
loop-i-preserved c =
    let s = c.args.s.now in
    let i = c.loop-i.i in
    let k = c.kept_length.ensures ∙ ap kept_length (between_to_end s i (length s) (omega arith)) in
    let z = skips-next s i (omega arith) (runs_here (drop i s) _ (c.if-is_some.ensures ∙ ap is_some k)) in
    omega arith

pub returns : goal.returns
returns c = let z = skips-end c.args.s.now c.loop-i.i (omega arith) in omega arith
