use mathlib.Core.Path.{◌≡◌, sym, ap, ◌∙◌}
use native.Mathlib.Omega.{arith}
use lib.ListN.{length, drop, length-drop}
use borrow.Author.Tests.{le-leb, lt-leb}
use Rattle.text.proofs.BytesLaws.{part-rest}
use Rattle.at.specs.Binary.{announced, read_data}
use Rattle.at.proofs.binary.data_at.Goals as goal
use Rattle.at.proofs.binary.data_at.Goals.{After-from-len, After-part-rest}

-- `binary::data_at` meets its contract: two length bytes, high first, and that many bytes after them. Assumes nothing.
-- what stands from the place on, and the length that it announces
rest : (c : After-part-rest) → c.part-rest.result.now ≡ drop c.args.at c.args.s.now
rest c = c.part-rest.ensures ∙ part-rest _ _

len : (c : After-from-len) → announced c.part-rest.result.now ≡ c.from-len.result
len c = sym (c.from-len.ensures ∙ c.from_be_bytes.ensures)

pub returns-then-rest-lt2 : goal.returns-then-rest-lt2
unfolding read_data
returns-then-rest-lt2 c = rw (← rest (goal.at.returns-then-rest-lt2 c).After-part-rest, lt-leb _ _ c.if-rest-lt2.true)

pub overflow_add-result : goal.overflow_add-result
overflow_add-result c =
    let e = ap length (rest (goal.at.overflow_add-result c).After-part-rest) in
    omega (arith, e, length-drop c.args.at c.args.s.now, c.if-rest-lt2.false, c.well_formed)

pub returns-then-len-rest : goal.returns-then-len-rest
unfolding read_data
returns-then-len-rest c =
    let past = goal.at.returns-then-len-rest c in
    rw (← rest past.After-part-rest, le-leb _ _ c.if-rest-lt2.false, len past.After-from-len, le-leb _ _ c.if-len-rest.true)

pub returns-else-len-rest : goal.returns-else-len-rest
unfolding read_data
returns-else-len-rest c =
    let past = goal.at.returns-else-len-rest c in
    rw (← rest past.After-part-rest, le-leb _ _ c.if-rest-lt2.false, len past.After-from-len, lt-leb _ _ c.if-len-rest.false)
