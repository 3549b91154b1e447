-- Each row of a table decides the lines that are written for it: no row before it with the same name has their type. Assumes nothing.
use Prim.Native.Nat.{ℕ}
use mathlib.Core.Path.{◌≡◌, refl, sym, ap, ◌∙◌}
use mathlib.Core.List.{List, [], ◌∷◌, ◌++◌, map}
use mathlib.Core.Bool.{Bool, true, false}
use mathlib.Core.Logic.{◌⊎◌, inl, inr, ⊎_elim}
use native.Mathlib.Omega.{arith}
use borrow.Author.Tests.{eqb-true}
use lib.Dec.{eqb}
use lib.ListN.{length, take}
use Rattle.text.specs.Bytes.{same}
use Rattle.text.specs.Decimal.{digits_of, decimal}
use Rattle.text.specs.Field.{Field}
use Rattle.text.proofs.Bools.{and_left, and_right}
use Rattle.text.proofs.BytesLaws.{same_self, same_equal}
use Rattle.text.proofs.FieldJoin.{cells_from}
use Rattle.at.specs.Refusal.{good, refused, no}
use Rattle.at.specs.Event.{Row, name_of, kinds_of, Value, num, place, Event, read_field, take_kind, take_kinds, read_row, bits}
use Rattle.at.specs.Line.{rows_named, by_type, by_name}
use Rattle.at.specs.W26 as w26
use Rattle.at.specs.W36 as w36
use Rattle.at.proofs.LineLaws.{row-found, row-passed}
use Rattle.at.proofs.RowsLaws.{named_append, distinct, none_left, twice_named}
use Rattle.at.proofs.TableTests.{distinct_w36}
use Rattle.writer.specs.Line.{contents_of, written}
use Rattle.writer.specs.Firmware.{TextValues, InTable}
use Rattle.writer.proofs.FirmwareFields.{field_back}

-- the fields of an event as they are read back, and any after them
abbrev pub fields_back : List ℕ → ℕ → List Value → List Field → List Field
fields_back src p vs more = cells_from p (map written (contents_of src vs)) ++ more

-- what a row reads from fields that were written for it, the table reads too
abbrev pub Decides : List Row → Type 0
Decides rows =
    (src : List ℕ) (r : Row) (vs : List Value) → InTable r rows → TextValues (kinds_of r) vs → (p : ℕ) (more : List Field) (e : Event)
    → read_row r (fields_back src p vs more) ≡ good e → by_name (rows_named rows (name_of r)) (fields_back src p vs more) ≡ good e

-- the first row of a name decides
first_decides : (rows : List Row) (r : Row) (rest : List Row) (fs : List Field) (e : Event) → rows_named rows (name_of r) ≡ r ∷ rest → read_row r fs ≡ good e
    → by_name (rows_named rows (name_of r)) fs ≡ good e
unfolding by_type
first_decides rows r rest fs e f g = rw (f, g)

-- where no name stands twice, each row is the only one of its name
passed_over_lem : (q : Row) (rows : List Row) (r : Row) → rows_named rows (name_of q) ≡ [] → rows_named rows (name_of r) ≡ r ∷ [] → rows_named (q ∷ rows) (name_of r) ≡ r ∷ []
passed_over_lem q rows r none own = go (same (name_of r) (name_of q)) refl
  where
    go : (k : Bool) → same (name_of r) (name_of q) ≡ k → rows_named (q ∷ rows) (name_of r) ≡ r ∷ []
    go true e =
        let f : r ∷ [] ≡ [] = sym own ∙ ap (rows_named rows) (same_equal (name_of r) (name_of q) e) ∙ none in
        let z : ◌≡◌ {A = ℕ} 0 1 = cc in
        absurd (omega arith)
    go false e = row-passed q rows (name_of r) e ∙ own

found_itself : (rows : List Row) → distinct rows ≡ true → (r : Row) → InTable r rows → rows_named rows (name_of r) ≡ r ∷ []
unfolding distinct
found_itself [] d r i = absurd i
found_itself (q ∷ rows) d r i =
    let alone = eqb (length (rows_named rows (name_of q))) 0 in
    let none = none_left (rows_named rows (name_of q)) (eqb-true (length (rows_named rows (name_of q))) 0 (and_left alone (distinct rows) d)) in
    ⊎_elim
    (λ e. rw e (row-found q rows (name_of q) (same_self (name_of q)) ∙ ap (λ (l : List Row). q ∷ l) none))
    (λ m. passed_over_lem q rows r none (found_itself rows (and_right alone (distinct rows) d) r m))
    i

pub decides_w36 : Decides w36.table
decides_w36 src r vs i h p more e g = first_decides w36.table r [] (fields_back src p vs more) e (found_itself w36.table distinct_w36 r i) g

-- W26: the last row has the name of the first, and no other name stands twice

last_apart : w26.table ≡ take 25 w26.table ++ w26.UUDPC-BT ∷ []
unfolding w26.table
last_apart = refl

front_distinct : distinct (take 25 w26.table) ≡ true
unfolding distinct rows_named same w26.table
front_distinct = refl

in_either : (rows l : List Row) (r : Row) → InTable r (rows ++ l) → InTable r rows ⊎ InTable r l
in_either [] l r i = inr i
in_either (q ∷ rows) l r i = ⊎_elim (λ e. inl (inl e)) (λ m. ⊎_elim (λ a. inl (inr a)) (λ b. inr b) (in_either rows l r m)) i

-- the type of a Bluetooth peer is none of an IP peer (13)
bluetooth_passed : (src : List ℕ) (vs : List Value) (p : ℕ) (more : List Field) → TextValues (kinds_of w26.UUDPC-BT) vs
    → read_row w26.UUDPC (fields_back src p vs more) ≡ refused (no 13)
unfolding read_row take_kinds take_kind cells_from
bluetooth_passed src [] p more h = absurd h
bluetooth_passed src (v ∷ []) p more h = absurd h.1
bluetooth_passed src (v ∷ place s l ∷ vs) p more h = absurd h.1.0
bluetooth_passed src (v ∷ num n ∷ vs) p more h = rw (field_back src 1 (bits 16) p v h.0, h.1.0) (unfold read_field decimal digits_of same in refl)

pub decides_w26 : Decides w26.table
unfolding by_type
decides_w26 src r vs i h p more e g = ⊎_elim first second (in_either (take 25 w26.table) (w26.UUDPC-BT ∷ []) r (rw (← last_apart) i))
  where
    first : InTable r (take 25 w26.table) → by_name (rows_named w26.table (name_of r)) (fields_back src p vs more) ≡ good e
    first m =
        first_decides w26.table r (rows_named (w26.UUDPC-BT ∷ []) (name_of r)) (fields_back src p vs more) e
        (ap (λ t. rows_named t (name_of r)) last_apart
        ∙ named_append (take 25 w26.table) (w26.UUDPC-BT ∷ []) (name_of r)
        ∙ ap (λ (l : List Row). l ++ rows_named (w26.UUDPC-BT ∷ []) (name_of r)) (found_itself (take 25 w26.table) front_distinct r m))
        g

    second : InTable r (w26.UUDPC-BT ∷ []) → by_name (rows_named w26.table (name_of r)) (fields_back src p vs more) ≡ good e
    second m = ⊎_elim (λ q. rw (q, twice_named, bluetooth_passed src vs p more (rw q at h), rw q at g)) (λ z. absurd z) m
