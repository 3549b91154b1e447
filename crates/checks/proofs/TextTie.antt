-- The checks of a text, and the reader's answer to the same text: by its name, and by the type of `+UUDPC`.
use Prim.Native.Nat.{ℕ, suc, ◌+◌, ◌≤◌}
use mathlib.Core.Path.{◌≡◌, refl, sym, ap, ◌∙◌}
use mathlib.Core.List.{List, [], ◌∷◌}
use mathlib.Core.Bool.{Bool, true, false, cond, ◌&&◌, ◌||◌, false≢true}
use native.Mathlib.Omega.{arith}
use lib.Dec.{eqb}
use lib.ListN.{length, drop}
use borrow.Author.Tests.{eqb-true}
use Rattle.text.specs.Bytes.{bytes, same}
use Rattle.text.specs.Number.{Num, some, none, number}
use Rattle.text.specs.Field.{Field, field}
use Rattle.text.proofs.BytesLaws.{same_equal}
use Rattle.text.proofs.Bools.{and_left, and_right}
use Rattle.at.specs.Refusal.{no, missing, invalid, OrRefused, good, refused}
use Rattle.at.specs.Event.{Kind, Row, name_of, kinds_of, Event, Read, values, read_field, take_kind, take_kinds, with_values, read_row}
use Rattle.std.specs.Prelude.{◌⊎◌}
use Rattle.std.proofs.Common.{inl, inr}
use Rattle.at.specs.Line.{Radio, before, rows_named, fields_after, by_type, by_name, read_text}
use Rattle.at.specs.W26 as w26
use Rattle.at.specs.W26.{UUDPC, UUDPC-BT}
use Rattle.at.specs.W36 as w36
use Rattle.at.proofs.RowsLaws.{Each, each_named, distinct, alone_decides, twice_named}
use Rattle.at.proofs.TypeLaws.{type_decides}
use Rattle.at.proofs.LineLaws.{row-passed}
use Rattle.checks.specs.Check.{◌needs◌else◌at◌, Finding, all_hold, broken, first_broken}
use Rattle.checks.specs.Line.{after, start_of, field_checks, types_fit, kinds_for, is_listed, text_checks}
use Rattle.checks.specs.Steps.{text_reason}
use Rattle.checks.specs.declared.CheckName.{CheckName}
use Rattle.checks.specs.declared.CheckName.TheVariants.{EventName, FieldType}
use Rattle.checks.proofs.FieldTie.{is_type, Late, fields_late, TypesAt, found_fields, fields-found}

-- a type stands in the second field of a row, or in none
abbrev pub typeless : List Kind → Bool
typeless [] = true
typeless (k ∷ ks) = cond (is_type k) false (typeless ks)

abbrev type_second : List Kind → Bool
type_second [] = true
type_second (k ∷ []) = cond (is_type k) false true
type_second (k ∷ l ∷ ks) = cond (is_type k) false (typeless ks)

pub no_type : (c : CheckName) (q i : ℕ) (ks : List Kind) (fs : List Field) → typeless ks ≡ true → TypesAt c q i ks fs
no_type c q i [] fs h = tt
no_type c q i (k ∷ ks) fs h = go (is_type k) refl h (no_type c q (suc i) ks (after fs))
  where
    go : (t : Bool) → is_type k ≡ t → cond t false (typeless ks) ≡ true → (typeless ks ≡ true → TypesAt c q (suc i) ks (after fs)) → TypesAt c q i (k ∷ ks) fs
    go true e h more = absurd (false≢true h)
    go false e h more = ((λ f. absurd (false≢true (sym e ∙ f))), more h)

second_type : (ks : List Kind) (fs : List Field) → type_second ks ≡ true → TypesAt (FieldType 2) (start_of (after fs)) 1 ks fs
second_type [] fs h = tt
second_type (k ∷ []) fs h = go (is_type k) refl h
  where
    go : (t : Bool) → is_type k ≡ t → cond t false true ≡ true → TypesAt (FieldType 2) (start_of (after fs)) 1 (k ∷ []) fs
    go true e h = absurd (false≢true h)
    go false e h = ((λ f. absurd (false≢true (sym e ∙ f))), tt)
second_type (k ∷ l ∷ ks) fs h = go (is_type k) refl h
  where
    go : (t : Bool) → is_type k ≡ t → cond t false (typeless ks) ≡ true → TypesAt (FieldType 2) (start_of (after fs)) 1 (k ∷ l ∷ ks) fs
    go true e h = absurd (false≢true h)
    go false e h = ((λ f. absurd (false≢true (sym e ∙ f))), ((λ _. (refl, refl)), no_type (FieldType 2) (start_of (after fs)) 3 ks (after (after fs)) h))

-- the row by which a text with one of these rows' name is read
pub record Chosen (rows : List Row) (fs : List Field) : Type 0 where
  pub row : Row
  pub kinds : kinds_for rows fs ≡ kinds_of row
  pub reads : by_name rows fs ≡ read_row row fs
  pub second : type_second (kinds_of row) ≡ true

abbrev pub Choice : List Row → List Field → Type 0
Choice [] fs = Unit {0}
Choice (r ∷ rs) fs = Chosen (r ∷ rs) fs

-- a radio whose tables say which row it is
abbrev pub Chooses : List Row → Type 0
Chooses rows = (name : List ℕ) (fs : List Field) → Choice (rows_named rows name) fs

-- where no two rows have one name, it is that of the name
module _ (fs : List Field) where
  alone : (r : Row) → type_second (kinds_of r) ≡ true → Chosen (r ∷ []) fs
  unfolding kinds_for
  alone r h = record { row = r; kinds = refl; reads = alone_decides r fs; second = h }

  one_at_most : (rs : List Row) → length rs ≤ 1 → Each (λ r. type_second (kinds_of r) ≡ true) rs → Choice rs fs
  one_at_most [] h e = tt
  one_at_most (r ∷ []) h e = alone r e.0
  one_at_most (r ∷ q ∷ rs) h e = absurd (omega arith)

few : (rows : List Row) (name : List ℕ) → distinct rows ≡ true → length (rows_named rows name) ≤ 1
unfolding distinct rows_named
few [] name d = omega arith
few (r ∷ rs) name d = go (same name (name_of r)) refl (few rs name (and_right (eqb (length (rows_named rs (name_of r))) 0) (distinct rs) d))
  where
    n : length (rows_named rs (name_of r)) ≡ 0
    n = eqb-true (length (rows_named rs (name_of r))) 0 (and_left (eqb (length (rows_named rs (name_of r))) 0) (distinct rs) d)

    go : (k : Bool) → same name (name_of r) ≡ k → length (rows_named rs name) ≤ 1 → length (cond k (r ∷ rows_named rs name) (rows_named rs name)) ≤ 1
    go true e h = let f : length (rows_named rs name) ≡ 0 = ap (λ (t : List ℕ). length (rows_named rs t)) (same_equal name (name_of r) e) ∙ n in omega (arith, f)
    go false e h = h

-- a computed test of a table, for each of its rows
unfoldable all_second : List Row → Bool
all_second [] = true
all_second (r ∷ rs) = type_second (kinds_of r) && all_second rs

each_second : (rows : List Row) → all_second rows ≡ true → Each (λ r. type_second (kinds_of r) ≡ true) rows
unfolding all_second
each_second [] h = tt
each_second (r ∷ rs) h = (and_left (type_second (kinds_of r)) (all_second rs) h, each_second rs (and_right (type_second (kinds_of r)) (all_second rs) h))

first_of : (P : Row → Type 0) (name : List ℕ) (rs : List Row) → Each (λ r. P r × (name ≡ name_of r)) rs → Each P rs
first_of P name [] h = tt
first_of P name (r ∷ rs) h = (h.0.0, first_of P name rs h.1)

by_name_lem : (rows : List Row) → distinct rows ≡ true → all_second rows ≡ true → Chooses rows
by_name_lem rows d t name fs =
    one_at_most fs (rows_named rows name) (few rows name d) (first_of _ name (rows_named rows name) (each_named _ rows name (each_second rows t)))

w36_distinct : distinct w36.table ≡ true
unfolding distinct rows_named same w36.table
w36_distinct = refl

w36_second : all_second w36.table ≡ true
unfolding all_second w36.table
w36_second = refl

pub w36_chooses : Chooses w36.table
w36_chooses = by_name_lem w36.table w36_distinct w36_second

others_distinct : distinct (drop 1 w26.table) ≡ true
unfolding distinct rows_named same w26.table
others_distinct = refl

others_second : all_second (drop 1 w26.table) ≡ true
unfolding all_second w26.table
others_second = refl

-- `+UUDPC`: by its type
module _ (p q n : ℕ) (h t : List ℕ) (rest : List Field) (e : number 16 h ≡ some n) where
  abbrev peer : List Field
  peer = field p h ∷ field q t ∷ rest

  decided : by_type (UUDPC ∷ UUDPC-BT ∷ []) peer
      ≡ cond (same t (bytes "1")) (read_row UUDPC-BT peer) (cond (same t (bytes "2") || same t (bytes "3")) (read_row UUDPC peer) (refused (no 13)))
  decided = sym (ap (λ (rs : List Row). by_name rs peer) twice_named) ∙ type_decides p q n h t rest e

  no_other : same t (bytes "1") ≡ false → read_row UUDPC-BT peer ≡ refused (no 13)
  unfolding read_row take_kinds take_kind read_field
  no_other f = rw (e, f)

  two_only : same t (bytes "2") ≡ true → same t (bytes "1") ≡ false
  unfolding same
  two_only f = rw (same_equal t (bytes "2") f)

  three_only : same t (bytes "3") ≡ true → same t (bytes "1") ≡ false
  unfolding same
  three_only f = rw (same_equal t (bytes "3") f)

  by_type_lem : Chosen (UUDPC ∷ UUDPC-BT ∷ []) peer
  unfolding kinds_for
  by_type_lem = go (same t (bytes "2")) refl (same t (bytes "3")) refl (same t (bytes "1")) refl
    where
      go : (b : Bool) → same t (bytes "2") ≡ b → (c : Bool) → same t (bytes "3") ≡ c → (a : Bool) → same t (bytes "1") ≡ a → Chosen (UUDPC ∷ UUDPC-BT ∷ []) peer
      go true x c y a z = record { row = UUDPC; kinds = rw x; reads = decided ∙ rw (two_only x, x); second = refl }
      go false x true y a z = record { row = UUDPC; kinds = rw (x, y); reads = decided ∙ rw (three_only y, x, y); second = refl }
      go false x false y true z = record { row = UUDPC-BT; kinds = rw (x, y); reads = decided ∙ rw z; second = refl }
      go false x false y false z = record { row = UUDPC-BT; kinds = rw (x, y); reads = decided ∙ rw (z, x, y, no_other z); second = refl }

-- where the handle is missing or no number, or the type is missing, both rows answer the same
module _ (p : ℕ) (h : List ℕ) (fs : List Field) where
  no_handle : (why : _) → number 16 h ≡ none why → by_type (UUDPC ∷ UUDPC-BT ∷ []) (field p h ∷ fs) ≡ read_row UUDPC-BT (field p h ∷ fs)
  unfolding by_type read_row take_kinds take_kind read_field
  no_handle why e = rw e

  no_handle_first : (why : _) → number 16 h ≡ none why → by_type (UUDPC ∷ UUDPC-BT ∷ []) (field p h ∷ fs) ≡ read_row UUDPC (field p h ∷ fs)
  unfolding by_type read_row take_kinds take_kind read_field
  no_handle_first why e = rw e

  either_row : (why : _) → number 16 h ≡ none why → Chosen (UUDPC ∷ UUDPC-BT ∷ []) (field p h ∷ fs)
  unfolding kinds_for
  either_row why e = go (types_fit (kinds_of UUDPC) (field p h ∷ fs)) refl
    where
      go : (k : Bool) → types_fit (kinds_of UUDPC) (field p h ∷ fs) ≡ k → Chosen (UUDPC ∷ UUDPC-BT ∷ []) (field p h ∷ fs)
      go true f = record { row = UUDPC; kinds = rw f; reads = no_handle_first why e; second = refl }
      go false f = record { row = UUDPC-BT; kinds = rw f; reads = no_handle why e; second = refl }

no_fields_lem : Chosen (UUDPC ∷ UUDPC-BT ∷ []) []
unfolding kinds_for by_type read_row take_kinds take_kind same
no_fields_lem = record { row = UUDPC-BT; kinds = refl; reads = refl; second = refl }

handle_only : (p n : ℕ) (h : List ℕ) → number 16 h ≡ some n → Chosen (UUDPC ∷ UUDPC-BT ∷ []) (field p h ∷ [])
unfolding kinds_for by_type read_row take_kinds take_kind read_field same
handle_only p n h e = record { row = UUDPC-BT; kinds = refl; reads = rw e; second = refl }

peer_chosen : (fs : List Field) → Chosen (UUDPC ∷ UUDPC-BT ∷ []) fs
peer_chosen [] = no_fields_lem
peer_chosen (field p h ∷ []) = go (number 16 h) refl
  where
    go : (o : Num) → number 16 h ≡ o → Chosen (UUDPC ∷ UUDPC-BT ∷ []) (field p h ∷ [])
    go (some n) e = handle_only p n h e
    go (none why) e = either_row p h [] why e
peer_chosen (field p h ∷ field q t ∷ rest) = go (number 16 h) refl
  where
    go : (o : Num) → number 16 h ≡ o → Chosen (UUDPC ∷ UUDPC-BT ∷ []) (field p h ∷ field q t ∷ rest)
    go (some n) e = by_type_lem p q n h t rest e
    go (none why) e = either_row p h (field q t ∷ rest) why e

first-row : w26.table ≡ UUDPC ∷ drop 1 w26.table
unfolding w26.table
first-row = refl

named_peer : (name : List ℕ) → same name (name_of UUDPC) ≡ false → rows_named w26.table name ≡ rows_named (drop 1 w26.table) name
named_peer name e = ap (λ (rows : List Row). rows_named rows name) first-row ∙ row-passed UUDPC (drop 1 w26.table) name e

pub w26_chooses : Chooses w26.table
w26_chooses name fs = go (same name (name_of UUDPC)) refl
  where
    go : (k : Bool) → same name (name_of UUDPC) ≡ k → Choice (rows_named w26.table name) fs
    go true e = rw (same_equal name (name_of UUDPC) e, twice_named) (peer_chosen fs)
    go false e = rw (named_peer name e) (by_name_lem (drop 1 w26.table) others_distinct others_second name fs)

-- what the checks of a text find, by the reader's answer
abbrev pub found_text : ℕ → List ℕ → OrRefused Event → Finding
found_text p t (good e) = all_hold
found_text p t (refused n) = text_reason p (p + length t) (fields_after p t) n

row-found : (p : ℕ) (t : List ℕ) (r : Row) (o : OrRefused Read) → Late 1 (length (kinds_of r)) o
    → found_fields (FieldType 2) (start_of (after (fields_after p t))) 1 (p + length t) (fields_after p t) o ≡ found_text p t (with_values r o)
row-found p t r (good (values vs fs)) l = refl
row-found p t r (refused (no n)) l = rw (l) (sym (ap (λ (q : ℕ). broken (FieldType 2) (no 13) q) (second_start (fields_after p t))))
  where
    second_start : (fs : List Field) → start_of (drop 1 fs) ≡ start_of (after fs)
    second_start [] = refl
    second_start (f ∷ fs) = refl
row-found p t r (refused (missing i)) l = refl
row-found p t r (refused (invalid i why)) l = refl

pub text-found : (rows : List Row) → Chooses rows → (p : ℕ) (t : List ℕ) → first_broken (text_checks rows p t) ≡ found_text p t (read_text rows p t)
unfolding text_checks read_text first_broken read_row
text-found rows chooses p t = go (rows_named rows (before (bytes ":") t)) (chooses (before (bytes ":") t) (fields_after p t))
  where
    go : (rs : List Row) → Choice rs (fields_after p t)
        → first_broken ((EventName needs is_listed rs else no 16 at p) ∷ field_checks 1 (p + length t) (kinds_for rs (fields_after p t)) (fields_after p t)) ≡ found_text p t (by_name rs (fields_after p t))
    go [] c = refl
    go (r ∷ rs) c =
        let ks = kinds_of c.row in
        let fs = fields_after p t in
        rw (c.kinds, c.reads)
        (fields-found (FieldType 2) (start_of (after fs)) 1 (p + length t) ks fs (second_type ks fs c.second) ∙ row-found p t c.row (take_kinds 1 ks fs) (fields_late 1 ks fs))

-- either radio's
pub known_chooses : (r : Radio) → (r ≡ w26.w26) ⊎ (r ≡ w36.w36) → Chooses r.rows
known_chooses r (inl e) = rw e w26_chooses
known_chooses r (inr e) = rw e w36_chooses
