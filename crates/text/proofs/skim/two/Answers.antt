use Rattle.text.proofs.Utf8Laws as rows
use Rattle.text.proofs.SkimLaws.{two_there}
use native.Mathlib.Omega.{arith}
use mathlib.Core.Path.{sym, ◌∙◌}
use Rattle.text.proofs.skim.two.Goals as goal

pub returns-then-matches : goal.returns-then-matches
returns-then-matches c = λ e. two_there c.args.a 0x80 0xBF c.args.b (sym c.continues.ensures ∙ e) (λ t. rows.two c.args.a t (omega arith) (omega arith))
