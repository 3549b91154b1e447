use mathlib.Core.Path.{◌≡◌}
use mathlib.Core.List.{replicate}
use native.Mathlib.Omega.{arith}
use lib.ListN.{length}
use Rattle.at.specs.declared.parts.Value.TheVariants.{Number}
use Rattle.at.proofs.PartsLaws.{filled_parts, filled_more}
use Rattle.at.proofs.parts.Parts.new.Goals as goal

pub loop-i-preserved : goal.loop-i-preserved
loop-i-preserved g c =
    let l : length c.args.given ≡ g.row.N = omega (arith, c.well_formed) in
    filled_more c.args.given c.loop-i.values (replicate 7 (Number 0)) c.loop-i.i (Number 0) (omega arith) (omega arith) c.loop-i.invariant

pub returns : goal.returns
returns g c =
    let l : length c.args.given ≡ g.row.N = omega (arith, c.well_formed) in
    let e : c.loop-i.i ≡ g.row.N = omega arith in
    filled_parts c.args.row g.row.N c.args.given c.loop-i.values l c.requires (rw e at c.loop-i.invariant)
