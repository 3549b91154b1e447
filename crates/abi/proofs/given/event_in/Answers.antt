use Prim.Native.Nat.{◌+◌, ◌≤◌, ◌<◌}
use mathlib.Core.Path.{◌≡◌}
use mathlib.Core.List.{List}
use mathlib.Core.Bool.{Bool, true, false, cond}
use native.Mathlib.Omega.{arith}
use lib.Dec.{ltb}
use lib.ListN.{length}
use borrow.Author.Tests.{lt-ltb, le-ltb, ne_eqb, eq-eqb}
use Rattle.at.specs.Event.{Row}
use Rattle.at.proofs.TableLaws.{sized, no_row}
use Rattle.abi.specs.Given.{number, event_in}
use Rattle.abi.specs.Steps.{Few}
use Rattle.abi.proofs.GivenLaws.{Found, found, gives}
use Rattle.abi.proofs.given.event_in.Goals as goal
use Rattle.abi.proofs.given.event_in.Goals.{After-kinds_at-kinds}

-- `given::event_in` meets its contract: the letters that the table has for the row say the kinds of its values. Assumes nothing.
pub returns-then-row-lt17 : goal.returns-then-row-lt17
unfolding event_in
returns-then-row-lt17 c = λ rows f. rw (lt-ltb _ 17 c.if-row-lt17.true)

pub returns-then-row-ne0 : goal.returns-then-row-ne0
unfolding event_in
returns-then-row-ne0 c = λ rows f. rw (le-ltb _ 17 c.if-row-lt17.false, ne_eqb _ 0 c.if-row-ne0.true)

pub returns-then-table-case : goal.returns-then-table-case
unfolding event_in
returns-then-table-case c = λ rows f.
    let start = c.args in
    let past : length rows ≤ number start.row.now 1 = omega (arith, sized rows start.table.now f.tabled, c.if-table-case.true) in
    rw (le-ltb _ 17 c.if-row-lt17.false, eq-eqb _ 0 c.if-row-ne0.false, no_row rows _ past)

-- the row of the table whose letters were handed out
row_of : (c : After-kinds_at-kinds) (rows : List Row) → Few c.args.texts rows c.args.table.now → (b : Bool) → ltb (number c.args.row.now 1) c.args.texts ≡ b
    → Found c.args.texts rows c.kinds_at-kinds.result.now (number c.args.row.now 1) (cond b (length c.kinds_at-kinds.result.now) (length c.kinds_at-kinds.result.now + 1))
row_of c rows f =
    let listed : number c.args.row.now 1 < length rows = omega (arith, sized rows c.args.table.now f.tabled, c.if-table-case.false) in
    found c.args.texts rows c.args.table.now _ _ f listed c.kinds_at-kinds.ensures

pub of_kinds-requires : goal.of_kinds-requires
of_kinds-requires c =
    let known = c.requires in
    let r = row_of (goal.at.of_kinds-requires c).After-kinds_at-kinds known.0 known.1 true (lt-ltb _ _ c.if-case-texts.true) in
    (c.if-row-lt17.false, r.enough, r.few)

pub of_kinds-requires-else-case-texts : goal.of_kinds-requires-else-case-texts
of_kinds-requires-else-case-texts c =
    let known = c.requires in
    let r = row_of (goal.at.of_kinds-requires-else-case-texts c).After-kinds_at-kinds known.0 known.1 false (le-ltb _ _ c.if-case-texts.false) in
    (c.if-row-lt17.false, r.enough, r.few)

pub returns-then-case-texts : goal.returns-then-case-texts
returns-then-case-texts c = λ rows f.
    let r = row_of (goal.at.returns-then-case-texts c).After-kinds_at-kinds rows f true (lt-ltb _ _ c.if-case-texts.true) in
    gives _ rows _ _ _ r c.if-row-lt17.false c.if-row-ne0.false c.of_kinds.ensures

pub returns-else-case-texts : goal.returns-else-case-texts
returns-else-case-texts c = λ rows f.
    let r = row_of (goal.at.returns-else-case-texts c).After-kinds_at-kinds rows f false (le-ltb _ _ c.if-case-texts.false) in
    gives _ rows _ _ _ r c.if-row-lt17.false c.if-row-ne0.false c.of_kinds-else-case-texts.ensures
