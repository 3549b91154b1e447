-- Laws of the rows of one name: which they are, and how an event is read by them.
use Prim.Native.Nat.{ℕ, zero, suc, ◌+◌}
use mathlib.Core.Path.{◌≡◌, refl, sym, ap, ◌∙◌}
use mathlib.Core.List.{List, [], ◌∷◌, ◌++◌}
use mathlib.Core.Bool.{Bool, true, false, cond, ◌&&◌, false≢true}
use native.Mathlib.Omega.{arith}
use borrow.Author.Tests.{eqb-true, eqb-false, ne_eqb}
use lib.Dec.{eqb}
use lib.ListN.{length, drop}
use lib.Seq.{drop-drop}
use Rattle.std.specs.Prelude.{Ok, Err}
use Rattle.text.specs.Bytes.{same}
use Rattle.text.specs.Field.{Field}
use Rattle.text.proofs.BytesLaws.{same_equal}
use Rattle.text.proofs.Bools.{and_left, and_right}
use Rattle.at.specs.Refusal.{Refusal, no, missing, invalid, number_of, OrRefused, good, refused}
use Rattle.at.specs.Event.{Row, name_of, Event, read_row}
use Rattle.at.specs.Line.{rows_named, or_next, by_type, by_name}
use Rattle.at.specs.Parts.{row_no}
use Rattle.at.specs.Steps.{Stop, outcome_by, is_unsupported, read_found, read_peer}
use Rattle.at.specs.W26.{table, UUDPC, UUDPC-BT}
use Rattle.at.specs.declared.field.Field.{Field as Taken}

-- what holds of each row of a list
abbrev pub Each : (Row → Type 0) → List Row → Type 0
Each P [] = Unit {0}
Each P (r ∷ rs) = P r × Each P rs

-- what holds of each row of a table holds of each row of a name, which also has that name
pub each_named : (P : Row → Type 0) (rows : List Row) (name : List ℕ) → Each P rows → Each (λ r. P r × (name ≡ name_of r)) (rows_named rows name)
unfolding rows_named
each_named P [] name h = tt
each_named P (r ∷ rs) name h = go (same name (name_of r)) refl (each_named P rs name h.1)
  where
    go : (k : Bool) → same name (name_of r) ≡ k → Each (λ r. P r × (name ≡ name_of r)) (rows_named rs name)
        → Each (λ r. P r × (name ≡ name_of r)) (cond k (r ∷ rows_named rs name) (rows_named rs name))
    go true e ih = ((h.0, same_equal name (name_of r) e), ih)
    go false e ih = ih

-- the rows of a name in two tables, one after the other
pub named_append : (rows l : List Row) (name : List ℕ) → rows_named (rows ++ l) name ≡ rows_named rows name ++ rows_named l name
unfolding rows_named
named_append [] l name = refl
named_append (q ∷ rows) l name = go (same name (name_of q)) (named_append rows l name)
  where
    go : (k : Bool) → rows_named (rows ++ l) name ≡ rows_named rows name ++ rows_named l name
        → cond k (q ∷ rows_named (rows ++ l) name) (rows_named (rows ++ l) name) ≡ cond k (q ∷ rows_named rows name) (rows_named rows name) ++ rows_named l name
    go true ih = ap (λ (t : List Row). q ∷ t) ih
    go false ih = ih

-- an event that is read by rows is read by one of them
module _ (P : Row → Type 0) (fs : List Field) (e : Event) where
  by_one : (rows : List Row) → Each P rows → by_type rows fs ≡ good e → (r : Row) × P r × (read_row r fs ≡ good e)
  unfolding by_type
  by_one [] h f = let z : ◌≡◌ {A = ℕ} 0 1 = cc in absurd (eqb-false 0 1 refl z)
  by_one (r ∷ rs) h f = go (read_row r fs) refl f (by_one rs h.1)
    where
      more : (k : Bool) (n : Refusal) → cond k (by_type rs fs) (refused n) ≡ good e → by_type rs fs ≡ good e
      more true n f = f
      more false n f = let z : ◌≡◌ {A = ℕ} 0 1 = cc in absurd (eqb-false 0 1 refl z)

      go : (o : OrRefused Event) → read_row r fs ≡ o → or_next o (by_type rs fs) ≡ good e
          → (by_type rs fs ≡ good e → (r : Row) × P r × (read_row r fs ≡ good e)) → (r : Row) × P r × (read_row r fs ≡ good e)
      go (good d) o f ih = (r, h.0, o ∙ f)
      go (refused n) o f ih = ih (more (eqb (number_of n) 13) n f)

  pub read_by-one : (rows : List Row) → Each P rows → by_name rows fs ≡ good e → (r : Row) × P r × (read_row r fs ≡ good e)
  read_by-one [] h f = let z : ◌≡◌ {A = ℕ} 0 1 = cc in absurd (eqb-false 0 1 refl z)
  read_by-one (r ∷ rs) h f = by_one (r ∷ rs) h f

-- the last row decides alone
pub last_decides : (o : OrRefused Event) → or_next o (refused (no 13)) ≡ o
last_decides (good e) = refl
last_decides (refused (no n)) = go (eqb n 13) refl
  where
    go : (k : Bool) → eqb n 13 ≡ k → cond {A = OrRefused Event} k (refused (no 13)) (refused (no n)) ≡ refused (no n)
    go true e = rw (eqb-true n 13 e)
    go false e = refl
last_decides (refused (missing i)) = refl
last_decides (refused (invalid i why)) = refl

pub alone_decides : (r : Row) (fs : List Field) → by_type (r ∷ []) fs ≡ read_row r fs
unfolding by_type
alone_decides r fs = last_decides (read_row r fs)

-- no two rows have the same name
unfoldable pub distinct : List Row → Bool
distinct [] = true
distinct (q ∷ rows) = eqb (length (rows_named rows (name_of q))) 0 && distinct rows

pub none_left : (rs : List Row) → length rs ≡ 0 → rs ≡ []
none_left [] e = refl
none_left (r ∷ rs) e = absurd (omega arith)

lone_after : (rows : List Row) → distinct rows ≡ true → (i : ℕ) (r : Row) → row_no rows i ≡ good r → rows_named (drop (suc i) rows) (name_of r) ≡ []
unfolding distinct row_no
lone_after [] d i r e = let z : ◌≡◌ {A = ℕ} 0 1 = cc in absurd (eqb-false 0 1 refl z)
lone_after (q ∷ rs) d zero r e =
    let f : q ≡ r = cc in
    let n = eqb-true (length (rows_named rs (name_of q))) 0 (and_left (eqb (length (rows_named rs (name_of q))) 0) (distinct rs) d) in
    rw f at (none_left (rows_named rs (name_of q)) n)
lone_after (q ∷ rs) d (suc i) r e = lone_after rs (and_right (eqb (length (rows_named rs (name_of q))) 0) (distinct rs) d) i r e

-- the first row of a name, by its number, has the name
named_itself : (rows : List Row) (name : List ℕ) (r : Row) (rest : List Row) → rows_named rows name ≡ r ∷ rest → name ≡ name_of r
named_itself rows name r rest e = first (rows_named rows name) (each_named (λ r. Unit {0}) rows name (all rows)) e
  where
    all : (rows : List Row) → Each (λ r. Unit {0}) rows
    all [] = tt
    all (r ∷ rs) = (tt, all rs)

    first : (rs : List Row) → Each (λ r. Unit {0} × (name ≡ name_of r)) rs → rs ≡ r ∷ rest → name ≡ name_of r
    first [] h e = let z : ◌≡◌ {A = ℕ} 0 1 = cc in absurd (eqb-false 0 1 refl z)
    first (q ∷ rs) h e = let f : q ≡ r = cc in rw f at h.0.1

module _ (name : List ℕ) (i : ℕ) (r : Row) (fs : List Field) where
  -- where no other row has its name, the row alone decides
  alone : (rows : List Row) → row_no rows i ≡ good r → rows_named rows name ≡ r ∷ rows_named (drop (suc i) rows) name
      → (name ≡ name_of r → rows_named (drop (suc i) rows) (name_of r) ≡ []) → read_found (row_no rows i) fs ≡ by_name (rows_named rows name) fs
  alone rows e f lone =
      let n = named_itself rows name r (rows_named (drop (suc i) rows) name) f in
      let l : rows_named (drop (suc i) rows) name ≡ [] = ap (rows_named (drop (suc i) rows)) n ∙ lone n in
      rw (e, f, l) (sym (alone_decides r fs))

  pub lone_read : (rows : List Row) → distinct rows ≡ true → row_no rows i ≡ good r → rows_named rows name ≡ r ∷ rows_named (drop (suc i) rows) name
      → read_found (row_no rows i) fs ≡ by_name (rows_named rows name) fs
  lone_read rows d e f = alone rows e f (λ n. lone_after rows d i r e)

-- what was taken for a row: a type that the row has not leaves the line to the next one, and all else is the row's own answer
module _ (rows : List Row) (row : ℕ) (fs : List Taken) (next : OrRefused Event) where
  left_to_next : (p : Stop) → is_unsupported p ≡ true → or_next (outcome_by rows row fs p) next ≡ next
  left_to_next (Ok all) u = absurd (false≢true u)
  left_to_next (Err e) u = rw u

  not_left : (r : Row) → row_no rows row ≡ good r → (p : Stop) → is_unsupported p ≡ false → or_next (outcome_by rows row fs p) next ≡ outcome_by rows row fs p
  not_left r found (Ok all) u = rw found
  not_left r found (Err e) u = rw u

-- of W26, only the name of the first row stands twice
pub twice_named : rows_named table (name_of UUDPC) ≡ UUDPC ∷ UUDPC-BT ∷ []
unfolding rows_named same table
twice_named = refl

others_distinct : distinct (drop 1 table) ≡ true
unfolding distinct rows_named same table
others_distinct = refl

pub first-is : row_no table 0 ≡ good UUDPC
unfolding row_no table
first-is = refl

later : (rows : List Row) (i : ℕ) → row_no rows (suc i) ≡ row_no (drop 1 rows) i
unfolding row_no
later [] i = refl
later (r ∷ rs) i = refl

one_more : (i : ℕ) → 1 + suc i ≡ suc (suc i)
one_more i = omega arith

pub peer_read : (name : List ℕ) (i : ℕ) (r : Row) (fs : List Field) → row_no table i ≡ good r → rows_named table name ≡ r ∷ rows_named (drop (suc i) table) name
    → read_peer i fs ≡ by_name (rows_named table name) fs
peer_read name zero r fs e f =
    let n = named_itself table name r (rows_named (drop 1 table) name) f in
    let q : good UUDPC ≡ good r = sym first-is ∙ e in
    let u : r ≡ UUDPC = cc in
    rw (n, u, twice_named)
peer_read name (suc i) r fs e f =
    let lone : rows_named (drop (suc (suc i)) table) (name_of r) ≡ [] = rw (← one_more i, ← drop-drop (suc i) 1 table) (lone_after (drop 1 table) others_distinct i r (sym (later table i) ∙ e)) in
    rw (ne_eqb (suc i) 0 (λ q. omega arith)) (alone name (suc i) r fs table e f (λ n. lone))

second_is : row_no table 25 ≡ good UUDPC-BT
unfolding row_no table
second_is = refl

-- what was taken for a row is its answer, but for the first row of `+UUDPC`, which leaves to the second what has not its type
module _ (i : ℕ) (gs : List Field) (fs : List Taken) (p : Stop) (e : outcome_by table i fs p ≡ read_found (row_no table i) gs) where
  abbrev next : OrRefused Event
  next = by_type (UUDPC-BT ∷ []) gs

  first : eqb i 0 ≡ true → outcome_by table i fs p ≡ read_row UUDPC gs
  first z = e ∙ rw (eqb-true i 0 z, first-is)

  pub not-left_read : cond (eqb i 0) (is_unsupported p) false ≡ false → outcome_by table i fs p ≡ read_peer i gs
  not-left_read u = go (eqb i 0) refl u
    where
      go : (k : Bool) → eqb i 0 ≡ k → cond k (is_unsupported p) false ≡ false → outcome_by table i fs p ≡ cond k (by_type (UUDPC ∷ UUDPC-BT ∷ []) gs) (read_found (row_no table i) gs)
      go true z u = unfold by_type in rw (← first z) (sym (not_left table i fs next UUDPC (rw (eqb-true i 0 z) first-is) p u))
      go false z u = e

  pub left_read : (second : OrRefused Event) → second ≡ read_found (row_no table 25) gs → cond (eqb i 0) (is_unsupported p) false ≡ true → second ≡ read_peer i gs
  left_read second s u = go (eqb i 0) refl u
    where
      go : (k : Bool) → eqb i 0 ≡ k → cond k (is_unsupported p) false ≡ true → second ≡ cond k (by_type (UUDPC ∷ UUDPC-BT ∷ []) gs) (read_found (row_no table i) gs)
      go true z u = unfold by_type in rw (← first z) (s ∙ rw second_is (sym (alone_decides UUDPC-BT gs)) ∙ sym (left_to_next table i fs next p u))
      go false z u = absurd (false≢true u)
