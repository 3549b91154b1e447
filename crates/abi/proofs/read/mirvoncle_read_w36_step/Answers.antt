use mathlib.Core.List.{[], ◌∷◌}
use lib.ListN.{drop}
use Rattle.at.specs.Walk.{read_either}
use Rattle.abi.proofs.RowLaws.{short, long}
use Rattle.abi.proofs.ReadLaws.{either_ok, step_end, step_on, step-event, step-refusal}
use Rattle.abi.proofs.read.mirvoncle_read_w36_step.Goals as goal

-- `mirvoncle_read_w36_step` meets its contract. Assumes nothing.
pub returns-then-row-lt17 : goal.returns-then-row-lt17
returns-then-row-lt17 c = short _ _ c.if-row-lt17.true

pub returns-then-s-at : goal.returns-then-s-at
returns-then-s-at c =
    let alone = c.alone.ensures in
    rw (step_end c.args.s.now c.args.at c.if-s-at.true) (long c.args.row.now (252 ∷ []) _ _ c.if-row-lt17.false alone.0 alone.1)

pub returns-then-why-eq0 : goal.returns-then-why-eq0
returns-then-why-eq0 c =
    let s = c.args.s.now in
    let at = c.args.at in
    rw (step_on s at c.if-s-at.false) (step-event (read_either at (drop at s)) at _ c.args.row.now _ c.if-row-lt17.false (either_ok at (drop at s)) c.either_into-why.ensures c.if-why-eq0.true)

pub returns : goal.returns
returns c =
    let s = c.args.s.now in
    let at = c.args.at in
    rw (step_on s at c.if-s-at.false) (step-refusal (read_either at (drop at s)) at _ c.args.row.now _ c.if-row-lt17.false (either_ok at (drop at s)) c.either_into-why.ensures _ c.if-why-eq0.false c.plain.ensures)
