use mathlib.Core.Path.{◌≡◌, sym, ◌∙◌}
use Rattle.std.proofs.Common.{rules}
use borrow.Author.Tests.{tests}
use Rattle.std.proofs.lemmas.Iterator.{YieldsList-from_slice}
use Rattle.std.proofs.lemmas.Iterator.Search.{all_from_yields_List}
use Rattle.text.specs.Bytes.{every}
use Rattle.text.specs.Number.{is_digit}
use Rattle.text.proofs.Every.{list_every}
use Rattle.text.proofs.number.too_large.Goals as goal
use Rattle.text.proofs.number.too_large.Goals.{After-all}

all_every : (c : After-all) → c.all.result ≡ every is_digit c.args.rest.now
all_every c = all_from_yields_List is_digit _ _ c.all.result c.all.ensures.ran (YieldsList-from_slice c.args.rest.now cc) (λ x b q k. search (rules, tests)) ∙ list_every is_digit c.args.rest.now

pub returns-then-all : goal.returns-then-all
returns-then-all c = rw (sym (all_every (goal.at.returns-then-all c).After-all) ∙ c.if-all.true)

pub returns-else-all : goal.returns-else-all
returns-else-all c = rw (sym (all_every (goal.at.returns-else-all c).After-all) ∙ c.if-all.false)
