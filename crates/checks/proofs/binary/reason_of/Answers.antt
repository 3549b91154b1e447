use mathlib.Core.Path.{sym, ◌∙◌}
use mathlib.Core.List.{[], ◌∷◌}
use native.Mathlib.Omega.{arith}
use Rattle.at.specs.W36.{UESODB, UESODBF, binary_table}
use Rattle.at.proofs.BinaryLaws.{prefix-inside}
use Rattle.checks.specs.Steps.{binary_reason}
use Rattle.checks.proofs.ReasonLaws.{row_named, row-passed}
use Rattle.checks.proofs.binary.reason_of.Goals as goal

pub overflow_add-from : goal.overflow_add-from
overflow_add-from c = omega (arith, prefix-inside UESODB c.args.s.now c.args.from (sym c.starts_at.ensures ∙ c.if-starts_at.true), c.well_formed)

pub returns-then-starts_at : goal.returns-then-starts_at
unfolding binary_table
returns-then-starts_at c = c.body_reason.ensures ∙ row_named UESODB (UESODBF ∷ []) c.args.s.now c.args.from _ (sym c.starts_at.ensures ∙ c.if-starts_at.true)

pub overflow_add-from-then-starts_at-2 : goal.overflow_add-from-then-starts_at-2
overflow_add-from-then-starts_at-2 c = omega (arith, prefix-inside UESODBF c.args.s.now c.args.from (sym c.starts_at-else-starts_at.ensures ∙ c.if-starts_at-2.true), c.well_formed)

pub returns-then-starts_at-2 : goal.returns-then-starts_at-2
unfolding binary_table
returns-then-starts_at-2 c = c.body_reason-then-starts_at-2.ensures
    ∙ row_named UESODBF [] c.args.s.now c.args.from _ (sym c.starts_at-else-starts_at.ensures ∙ c.if-starts_at-2.true)
    ∙ row-passed UESODB (UESODBF ∷ []) c.args.s.now c.args.from _ (sym c.starts_at.ensures ∙ c.if-starts_at.false)

pub returns-else-starts_at-2 : goal.returns-else-starts_at-2
unfolding binary_table binary_reason
returns-else-starts_at-2 c = rw c.shown_at.ensures (row-passed UESODBF [] c.args.s.now c.args.from _ (sym c.starts_at-else-starts_at.ensures ∙ c.if-starts_at-2.false)
    ∙ row-passed UESODB (UESODBF ∷ []) c.args.s.now c.args.from _ (sym c.starts_at.ensures ∙ c.if-starts_at.false))
