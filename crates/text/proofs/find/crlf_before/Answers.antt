use mathlib.Core.Path.{◌≡◌}
use mathlib.Core.Bool.{true, false}
use lib.ListN.{drop}
use Rattle.std.proofs.Common.{rules}
use borrow.Author.Tests.{tests}
use Rattle.std.proofs.lemmas.Iterator.{first_from_Range}
use Rattle.text.specs.Bytes.{starts_with}
use Rattle.text.specs.Find.{crlf}
use Rattle.text.proofs.FindLaws.{from-found}
use Rattle.text.proofs.find.crlf_before.Goals as goal

pub returns : goal.returns
returns c = from-found crlf c.args.s.now c.args.from c.args.stop c.requires.0 c.requires.1
    (λ i. starts_with (drop i c.args.s.now) crlf ≡ true) (λ i. starts_with (drop i c.args.s.now) crlf ≡ false)
    (λ i h e. e) (λ i h e. e)
    c.find.result (first_from_Range _ _ _ c.find.result _ _ c.find.ensures.ran (λ x q k. search (rules, tests)) (λ x q k. search (rules, tests)))
