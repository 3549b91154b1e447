use Rattle.text.specs.Utf8.{table}
use Rattle.text.proofs.Utf8Laws as rows
use Rattle.text.proofs.SkimLaws.{three_there, between}
use native.Mathlib.Omega.{arith}
use mathlib.Core.Path.{sym, ◌∙◌}
use Rattle.text.proofs.skim.three.Goals as goal

pub returns-in-160-to-191 : goal.returns-in-160-to-191
unfolding table
returns-in-160-to-191 c = λ e. three_there c.args.a 0xA0 0xBF c.args.b (between 0xA0 0xBF c.args.b (omega arith) (omega arith)) (λ t. rw c.in-224.is) c.args.c (sym c.continues.ensures ∙ c.if-continues.true)

pub returns-in-128-to-159 : goal.returns-in-128-to-159
unfolding table
returns-in-128-to-159 c = λ e. three_there c.args.a 0x80 0x9F c.args.b (between 0x80 0x9F c.args.b (omega arith) (omega arith)) (λ t. rw c.in-237.is) c.args.c (sym c.continues.ensures ∙ c.if-continues.true)

pub returns-in-225-to-239 : goal.returns-in-225-to-239
returns-in-225-to-239 c = λ e. three_there c.args.a 0x80 0xBF c.args.b (sym c.continues-in-225-to-239.ensures ∙ e) (λ t. rows.threes c.args.a t (omega arith) (omega arith) (omega arith) (omega arith)) c.args.c (sym c.continues.ensures ∙ c.if-continues.true)
