use native.Mathlib.Omega.{arith}
use mathlib.Core.Path.{refl, ◌∙◌}
use mathlib.Core.Logic.{inl}
use Rattle.std.proofs.lemmas.Iterator.Consumers.{count_from_yields_List, YieldsList-from_first}
use Rattle.std.proofs.lemmas.List.{length-map}
use Rattle.scan.specs.Cut.{cut}
use Rattle.scan.specs.Step.{range_of, ranges_of}
use Rattle.scan.specs.declared.run.Ranges.{Ranges}
use Rattle.scan.specs.declared.run.Range.{Range}
use Rattle.scan.proofs.FillLaws.{few_left}
use Rattle.scan.proofs.fill.count.Goals as goal

pub count-requires-clause-fits : goal.count-requires-clause-fits
count-requires-clause-fits c = inl (omega (arith, few_left c.args.dump.now))

pub returns : goal.returns
returns c =
    let d = c.args.dump.now in
    count_from_yields_List _ _ c.count.ensures.ran (YieldsList-from_first (λ (r : Range). r) (λ (s : Ranges). ranges_of s.left.now) (ranges_of d) refl)
    ∙ length-map (cut d) range_of
