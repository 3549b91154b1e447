use Prim.Native.Nat.{ℕ, suc, ◌+◌, ◌*◌, ◌≤◌, ◌<◌}
use mathlib.Core.Path.{◌≡◌, refl, sym, ◌∙◌}
use mathlib.Core.List.{List, ◌∷◌}
use mathlib.Core.Bool.{Bool, false}
use native.Mathlib.Numerals.{add-one}
use native.Mathlib.Omega.{arith}
use lib.ListN.{get_or, length, drop}
use Rattle.text.specs.Bytes.{same, part}
use Rattle.text.proofs.BytesLaws.{same_length}
use Rattle.at.specs.Refusal.{good}
use Rattle.at.specs.Event.{Row, name_of}
use Rattle.at.specs.Line.{rows_named}
use Rattle.at.specs.Table.{spelled}
use Rattle.at.specs.TableSteps.{Tabled}
use Rattle.at.specs.Parts.{row_no}
use Rattle.at.proofs.LineLaws.{row-found, row-passed}
use Rattle.at.proofs.TableLaws.{sized, Stands, stands, held}
use Rattle.at.proofs.table.row_between.Goals as goal
use Rattle.at.proofs.table.row_between.Goals.{else-name-from-via-then-name-from+else-ends_alike, else-name-from-via-then-name-from+then-ends_alike+else-stands_at, else-name-from-via-else-name-from}

abbrev Named : List ℕ → ℕ → List Row → Type 0
Named table row rows = (r : Row) × (row_no rows row ≡ good r) × (drop row rows ≡ r ∷ drop (suc row) rows) × Stands table row r

-- a row of the table
here : (rows : List Row) (table : List ℕ) (row : ℕ) → Tabled rows table → row < length rows → Named table row rows
here rows table row t h = stands rows table row t h

-- its name is held against the one that is looked for, where they are of one length
tested : (table name : List ℕ) (row : ℕ) (r : Row) → Stands table row r → length name ≡ get_or table (row * 20) 0 → (k : Bool) → k ≡ same name (part table (row * 20 + 2) (length name))
    → same name (name_of r) ≡ k
tested table name row r st l k e = sym (e ∙ held table name row r (row * 20) (length name) st refl (l ∙ st.name_length))

-- and there is room for it
room : (rows : List Row) (table name : List ℕ) (row at : ℕ) → Tabled rows table → row < length rows → at ≡ row * 20 → length name ≡ get_or table at 0 → at + 2 + length name ≤ length (spelled rows)
room rows table name row at t h e l =
    let r = (here rows table row t h).3 in
    rw (← t.spells) (omega (arith, e, rw e at l, r.name_length, r.name_room, r.fits))

pub bounds-table-at : goal.bounds-table-at
bounds-table-at g c = omega (arith, sized g.R.Rows.rows _ c.bytes-table.ensures, c.bytes-table.type_inv.0, c.loop-row-test.true, c.requires.1)

pub overflow_mul-at : goal.overflow_mul-at
overflow_mul-at g c = omega (arith, sized g.R.Rows.rows _ c.bytes-table.ensures, c.bytes-table.type_inv.0, c.loop-row-test.true, c.requires.1)

pub overflow_add-at : goal.overflow_add-at
overflow_add-at g c = omega (arith, sized g.R.Rows.rows _ c.bytes-table.ensures, c.bytes-table.type_inv.0, c.loop-row-test.true, c.requires.1)

pub overflow_add-at-then-ends_alike : goal.overflow_add-at-then-ends_alike
overflow_add-at-then-ends_alike g c = omega (arith, sized g.R.Rows.rows _ c.bytes-table.ensures, c.bytes-table.type_inv.0, c.loop-row-test.true, c.requires.1)

pub ends_alike-requires : goal.ends_alike-requires
ends_alike-requires g c = room g.R.Rows.rows _ c.args.name.now c.loop-row.row _ c.bytes-table.ensures (omega (arith, c.loop-row-test.true, c.requires.1)) refl (c.if-name-from.true ∙ c.from.ensures)

pub stands_at-requires : goal.stands_at-requires
stands_at-requires g c = room g.R.Rows.rows _ c.args.name.now c.loop-row.row _ c.bytes-table.ensures (omega (arith, c.loop-row-test.true, c.requires.1)) refl (c.if-name-from.true ∙ c.from.ensures)

pub returns-then-stands_at : goal.returns-then-stands_at
returns-then-stands_at g c =
    let rows = g.R.Rows.rows in
    let q = here rows _ c.loop-row.row c.bytes-table.ensures (omega (arith, c.loop-row-test.true, c.requires.1)) in
    let e = tested _ _ _ q.0 q.3 (c.if-name-from.true ∙ c.from.ensures) _ (rw (← c.bytes-table.ensures.spells) at c.stands_at.ensures) ∙ c.if-stands_at.true in
    (q.0, q.1, c.loop-row.invariant ∙ rw q.2 (row-found q.0 (drop (suc c.loop-row.row) rows) _ e))

pub loop-row-preserved : goal.loop-row-preserved
loop-row-preserved g c =
    let rows = g.R.Rows.rows in
    let q = here rows _ c.loop-row.row c.bytes-table.ensures (omega (arith, c.loop-row-test.true, c.requires.1)) in
    let passed : same c.args.name.now (name_of q.0) ≡ false → rows_named (drop c.args.from rows) c.args.name.now ≡ rows_named (drop (c.loop-row.row + 1) rows) c.args.name.now
    = λ e. c.loop-row.invariant ∙ rw (q.2, add-one) (row-passed q.0 (drop (suc c.loop-row.row) rows) c.args.name.now e) in
    elim c.else-name-from.branch [
      | else-name-from-via-then-name-from+else-ends_alike w ↦ passed (tested _ _ _ q.0 q.3 (w.if-name-from.true ∙ c.from.ensures) _ (rw (← c.bytes-table.ensures.spells) at (sym (w.ends_alike.ensures w.if-ends_alike.false))))
      | else-name-from-via-then-name-from+then-ends_alike+else-stands_at w ↦ passed (tested _ _ _ q.0 q.3 (w.if-name-from.true ∙ c.from.ensures) _ (rw (← c.bytes-table.ensures.spells) at w.stands_at.ensures) ∙ w.if-stands_at.false)
      | else-name-from-via-else-name-from w ↦ passed (same_length _ _ (λ e. w.if-name-from.false (e ∙ sym q.3.name_length ∙ sym c.from.ensures)))
    ]

pub loop-row-init : goal.loop-row-init
loop-row-init g c = refl

pub returns : goal.returns
returns g c =
    let e : c.loop-row.row ≡ c.args.to = omega (arith, c.loop-row-test.false, c.requires.0, c.loop-row.auto) in
    rw e at c.loop-row.invariant
