use Rattle.text.specs.Utf8.{table}
use Rattle.text.proofs.Utf8Laws as rows
use Rattle.text.proofs.Bools.{and_left, and_right}
use Rattle.text.proofs.SkimLaws.{four_there, between}
use native.Mathlib.Omega.{arith}
use mathlib.Core.Path.{sym, ◌∙◌}
use Rattle.text.proofs.skim.four.Goals as goal

pub returns-in-144-to-191 : goal.returns-in-144-to-191
unfolding table
returns-in-144-to-191 c = λ e. four_there c.args.a 0x90 0xBF c.args.b (between 0x90 0xBF c.args.b (omega arith) (omega arith)) (λ t. rw c.in-240.is) c.args.c c.args.d (sym c.continues.ensures ∙ and_left _ _ c.if-continues.true) (sym c.continues-2.ensures ∙ and_right _ _ c.if-continues.true)

pub returns-in-128-to-143 : goal.returns-in-128-to-143
unfolding table
returns-in-128-to-143 c = λ e. four_there c.args.a 0x80 0x8F c.args.b (between 0x80 0x8F c.args.b (omega arith) (omega arith)) (λ t. rw c.in-244.is) c.args.c c.args.d (sym c.continues.ensures ∙ and_left _ _ c.if-continues.true) (sym c.continues-2.ensures ∙ and_right _ _ c.if-continues.true)

pub returns-in-241-to-243 : goal.returns-in-241-to-243
returns-in-241-to-243 c = λ e. four_there c.args.a 0x80 0xBF c.args.b (sym c.continues-in-241-to-243.ensures ∙ e) (λ t. rows.four c.args.a t (omega arith) (omega arith)) c.args.c c.args.d (sym c.continues.ensures ∙ and_left _ _ c.if-continues.true) (sym c.continues-2.ensures ∙ and_right _ _ c.if-continues.true)
