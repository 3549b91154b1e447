use mathlib.Core.Path.{◌≡◌, sym, ap, ◌∙◌}
use mathlib.Core.List.{[], ◌∷◌}
use native.Mathlib.Omega.{arith}
use lib.ListN.{drop}
use Rattle.std.proofs.lemmas.Result.{err_from_is_err_and}
use Rattle.at.specs.Binary.{tried, try_rows}
use Rattle.at.specs.W36.{UESODB, UESODBF, binary_table, shown}
use Rattle.at.proofs.BinaryLaws.{prefix-inside, row-tried, row_skipped}
use Rattle.at.proofs.w36.try_parse_binary.Goals as goal
use Rattle.at.proofs.w36.try_parse_binary.Goals.{Else-starts_at, After-socket_data, After-socket_data_from}

-- `w36::try_parse_binary` meets its contract: the two prefixes are looked for in the order of the rows. Assumes nothing.
-- the bytes do not start with the first row's prefix
skipped : (c : Else-starts_at)
    → let a = c.args in try_rows binary_table a.from (drop a.from a.s.now) ≡ try_rows (UESODBF ∷ []) a.from (drop a.from a.s.now)
unfolding binary_table
skipped c =
    let a = c.args in
    row_skipped UESODB (UESODBF ∷ []) a.s.now a.from (sym c.starts_at.ensures ∙ c.if-starts_at.false)

pub overflow_add-from : goal.overflow_add-from
overflow_add-from c =
    let a = c.args in
    omega (arith, prefix-inside UESODB a.s.now a.from (sym c.starts_at.ensures ∙ c.if-starts_at.true), c.well_formed)

-- what the row gives whose prefix the bytes start with
first : (c : After-socket_data) → let a = c.args in tried (shown c.socket_data.result) ≡ try_rows binary_table a.from (drop a.from a.s.now)
unfolding binary_table
first c =
    let a = c.args in
    ap tried c.socket_data.ensures ∙ sym (row-tried UESODB (UESODBF ∷ []) a.s.now a.from (sym c.starts_at.ensures ∙ c.if-starts_at.true))

second : (c : After-socket_data_from) → let a = c.args in tried (shown c.socket_data_from.result) ≡ try_rows (UESODBF ∷ []) a.from (drop a.from a.s.now)
second c =
    let a = c.args in
    ap tried c.socket_data_from.ensures ∙ sym (row-tried UESODBF [] a.s.now a.from (sym c.starts_at-2.ensures ∙ c.if-starts_at-2.true))

pub returns-then-starts_at : goal.returns-then-starts_at
returns-then-starts_at c = rw c.in_ok-socket_data.was at (first (goal.at.returns-then-starts_at c).After-socket_data)

pub returns-in_err-socket_data : goal.returns-in_err-socket_data
returns-in_err-socket_data c =
    let p = err_from_is_err_and c.from_residual.result c.from_residual.ensures.1 in
    rw (p.1, p.2) (rw c.in_err-socket_data.was at (first (goal.at.returns-in_err-socket_data c).After-socket_data))

pub overflow_add-from-then-starts_at-2 : goal.overflow_add-from-then-starts_at-2
overflow_add-from-then-starts_at-2 c =
    let a = c.args in
    omega (arith, prefix-inside UESODBF a.s.now a.from (sym c.starts_at-2.ensures ∙ c.if-starts_at-2.true), c.well_formed)

pub returns-then-starts_at-2 : goal.returns-then-starts_at-2
returns-then-starts_at-2 c =
    rw c.in_ok-socket_data_from.was at (second (goal.at.returns-then-starts_at-2 c).After-socket_data_from)
    ∙ sym (skipped (goal.at.returns-then-starts_at-2 c).Else-starts_at)

pub returns-in_err-socket_data_from : goal.returns-in_err-socket_data_from
returns-in_err-socket_data_from c =
    let p = err_from_is_err_and c.from_residual-in_err-socket_data_from.result c.from_residual-in_err-socket_data_from.ensures.1 in
    rw (p.1, p.2)
    (rw c.in_err-socket_data_from.was at (second (goal.at.returns-in_err-socket_data_from c).After-socket_data_from)
    ∙ sym (skipped (goal.at.returns-in_err-socket_data_from c).Else-starts_at))

pub returns : goal.returns
unfolding try_rows
returns c =
    let a = c.args in
    sym (skipped (goal.at.returns c).Else-starts_at ∙ row_skipped UESODBF [] a.s.now a.from (sym c.starts_at-2.ensures ∙ c.if-starts_at-2.false))
