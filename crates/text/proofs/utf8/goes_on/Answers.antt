use mathlib.Core.Path.{refl, ◌∙◌}
use mathlib.Core.List.{[], ◌∷◌}
use native.Mathlib.Omega.{arith}
use lib.ListN.{drop}
use borrow.Author.Tests.{tests}
use Rattle.std.proofs.Common.{rules}
use Rattle.std.proofs.lemmas.Iterator.{YieldsList-from_range}
use Rattle.std.proofs.lemmas.Iterator.Search.{all_from_yields_List}
use Rattle.text.specs.Utf8.{◌‥◌, fits}
use Rattle.text.proofs.Utf8Laws.{going_all}
use Rattle.text.proofs.utf8.goes_on.Goals as goal

pub returns : goal.returns
returns c = all_from_yields_List (λ k. fits (0x80 ‥ 0xBF ∷ []) (drop k c.args.s.now)) _ _ c.all.result c.all.ensures.ran (YieldsList-from_range c.args.i _ c.args.n refl (omega arith)) (λ x b q k. search (rules, tests))
    ∙ going_all c.args.s.now c.args.n c.args.i
