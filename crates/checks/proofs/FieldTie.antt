-- The checks of a row's fields, and the reader's answer to the same fields.
use Prim.Native.Nat.{ℕ, suc, ◌+◌, ◌-◌, ◌≤◌, ◌<◌}
use mathlib.Core.Path.{◌≡◌, refl, ◌∙◌}
use mathlib.Core.List.{List, [], ◌∷◌, ◌++◌}
use mathlib.Core.Bool.{Bool, true, false, cond, ◌||◌}
use native.Mathlib.Omega.{arith}
use lib.ListN.{length}
use Rattle.text.specs.Bytes.{bytes, same}
use Rattle.text.specs.Number.{Num, some, none, number}
use Rattle.text.specs.Field.{Field, field}
use Rattle.at.specs.Refusal.{no, missing, invalid, OrRefused, good, refused}
use Rattle.at.specs.Event.{Kind, bits, text, ip_type, bt_type, protocol, reason, is_protocol, is_reason, Value, num, listed, read_field, and_rest, take_kind, Read, values, prepend, and_then, take_kinds}
use Rattle.at.specs.declared.FieldError.TheVariants.{NotListed}
use Rattle.checks.specs.Check.{◌needs◌else◌at◌, Finding, all_hold, broken, first_broken}
use Rattle.checks.specs.Number.{value_of, number_checks}
use Rattle.checks.specs.Line.{form_checks, start_of, after, field_checks}
use Rattle.checks.specs.Steps.{start_no, form_check}
use Rattle.checks.specs.declared.CheckName.{CheckName}
use Rattle.checks.specs.declared.CheckName.TheVariants.{FieldThere, FieldListed, FieldType}
use Rattle.checks.proofs.CheckLaws.{found_none, and_also, joined}
use Rattle.checks.proofs.NumberTie.{found_number, number-found, number-value}

-- what the checks of one field find, by the reader's answer
abbrev found_form : ℕ → ℕ → OrRefused Value → Finding
found_form i p (good v) = all_hold
found_form i p (refused (no n)) = broken (FieldType i) (no n) p
found_form i p (refused (missing j)) = broken (FieldThere j) (missing j) p
found_form i p (refused (invalid j why)) = broken (form_check j why) (invalid j why) p

number-form : (i p : ℕ) (n : Num) → found_number i p n ≡ found_form i p (listed i (λ n. true) n)
number-form i p (some n) = refl
number-form i p (none why) = refl

listed-form : (i p : ℕ) (in_list : ℕ → Bool) (b : List ℕ)
    → first_broken (number_checks i 8 p b ++ (FieldListed i needs in_list (value_of b) else invalid i NotListed at p) ∷ []) ≡ found_form i p (listed i in_list (number 8 b))
unfolding first_broken
listed-form i p in_list b =
    joined (number_checks i 8 p b) ((FieldListed i needs in_list (value_of b) else invalid i NotListed at p) ∷ [])
    ∙ rw (number-found i 8 p b) (go (number 8 b) refl)
  where
    more : (n : ℕ) (k : Bool) → cond k all_hold (broken (FieldListed i) (invalid i NotListed) p) ≡ found_form i p (cond k (good (num n)) (refused (invalid i NotListed)))
    more n true = refl
    more n false = refl

    go : (o : Num) → number 8 b ≡ o
        → and_also (found_number i p o) (first_broken ((FieldListed i needs in_list (value_of b) else invalid i NotListed at p) ∷ [])) ≡ found_form i p (listed i in_list o)
    go (some n) e = rw (number-value 8 n b e) (more n (in_list n))
    go (none why) e = refl

type_form : (i p : ℕ) (two three : Bool)
    → first_broken ((FieldType i needs two || three else no 13 at p) ∷ []) ≡ found_form i p (cond two (good (num 2)) (cond three (good (num 3)) (refused (no 13))))
unfolding first_broken
type_form i p true three = refl
type_form i p false true = refl
type_form i p false false = refl

bluetooth_form : (i p : ℕ) (one : Bool) → first_broken ((FieldType i needs one else no 13 at p) ∷ []) ≡ found_form i p (cond one (good (num 1)) (refused (no 13)))
unfolding first_broken
bluetooth_form i p true = refl
bluetooth_form i p false = refl

form : (i : ℕ) (k : Kind) (p : ℕ) (b : List ℕ) → first_broken (form_checks i k p b) ≡ found_form i p (read_field i k p b)
unfolding read_field
form i (bits w) p b = number-found i w p b ∙ number-form i p (number w b)
form i text p b = found_none
form i ip_type p b = type_form i p (same b (bytes "2")) (same b (bytes "3"))
form i bt_type p b = bluetooth_form i p (same b (bytes "1"))
form i protocol p b = listed-form i p is_protocol b
form i reason p b = listed-form i p is_reason b

-- what a field is refused with: 13 where it is a type, or 15 with its own number
abbrev pub is_type : Kind → Bool
is_type (bits w) = false
is_type text = false
is_type ip_type = true
is_type bt_type = true
is_type protocol = false
is_type reason = false

abbrev Own : ℕ → Kind → OrRefused Value → Type 0
Own i k (good v) = Unit {0}
Own i k (refused (no n)) = (n ≡ 13) × (is_type k ≡ true)
Own i k (refused (missing j)) = ⊥
Own i k (refused (invalid j why)) = j ≡ i

listed_own : (i : ℕ) (k : Kind) (in_list : ℕ → Bool) (n : Num) → Own i k (listed i in_list n)
listed_own i k in_list (none why) = refl
listed_own i k in_list (some n) = go (in_list n)
  where
    go : (t : Bool) → Own i k (cond t (good (num n)) (refused (invalid i NotListed)))
    go true = tt
    go false = refl

field_own_lem : (i : ℕ) (k : Kind) (p : ℕ) (b : List ℕ) → Own i k (read_field i k p b)
unfolding read_field
field_own_lem i (bits w) p b = listed_own i (bits w) (λ n. true) (number w b)
field_own_lem i text p b = tt
field_own_lem i ip_type p b = go (same b (bytes "2")) (same b (bytes "3"))
  where
    go : (two three : Bool) → Own i ip_type (cond two (good (num 2)) (cond three (good (num 3)) (refused (no 13))))
    go true three = tt
    go false true = tt
    go false false = (refl, refl)
field_own_lem i bt_type p b = go (same b (bytes "1"))
  where
    go : (one : Bool) → Own i bt_type (cond one (good (num 1)) (refused (no 13)))
    go true = tt
    go false = (refl, refl)
field_own_lem i protocol p b = listed_own i protocol is_protocol (number 8 b)
field_own_lem i reason p b = listed_own i reason is_reason (number 8 b)

-- of m fields from the field i on: 13, or one of them
abbrev pub Late : {A : Type 0} → ℕ → ℕ → OrRefused A → Type 0
Late i m (good a) = Unit {0}
Late i m (refused (no n)) = n ≡ 13
Late i m (refused (missing j)) = Unit {0}
Late i m (refused (invalid j why)) = (i ≤ j) × (j < i + m)

pub fields_late : (i : ℕ) (ks : List Kind) (fs : List Field) → Late i (length ks) (take_kinds i ks fs)
unfolding take_kinds take_kind
fields_late i [] fs = tt
fields_late i (k ∷ ks) [] = tt
fields_late i (k ∷ ks) (field p b ∷ fs) = go (read_field i k p b) (field_own_lem i k p b) (λ rest. take_kinds (suc i) ks rest) (fields_late (suc i) ks fs)
  where
    front : (v : Value) (o : OrRefused Read) → Late (suc i) (length ks) o → Late i (suc (length ks)) (prepend v o)
    front v (good (values vs fs)) l = tt
    front v (refused (no n)) l = l
    front v (refused (missing j)) l = tt
    front v (refused (invalid j why)) l = (omega (arith, l.0), omega (arith, l.1))

    go : (o : OrRefused Value) → Own i k o → (more : List Field → OrRefused Read) → Late (suc i) (length ks) (more fs) → Late i (suc (length ks)) (and_then (and_rest o fs) more)
    go (good v) l more m = front v (more fs) m
    go (refused (no n)) l more m = l.0
    go (refused (missing j)) l more m = absurd l
    go (refused (invalid j why)) l more m = (omega (arith, l), omega (arith, l))

-- each type among the kinds is that of one field, named c, which starts at the place q
abbrev pub TypesAt : CheckName → ℕ → ℕ → List Kind → List Field → Type 0
TypesAt c q i [] fs = Unit {0}
TypesAt c q i (k ∷ ks) fs = (is_type k ≡ true → (c ≡ FieldType i) × (q ≡ start_of fs)) × TypesAt c q (suc i) ks (after fs)

-- what the checks of the fields from the field i on find, by the reader's answer
abbrev pub found_fields : CheckName → ℕ → ℕ → ℕ → List Field → OrRefused Read → Finding
found_fields c q i end fs (good r) = all_hold
found_fields c q i end fs (refused (no n)) = broken c (no n) q
found_fields c q i end fs (refused (missing j)) = broken (FieldThere j) (missing j) end
found_fields c q i end fs (refused (invalid j why)) = broken (form_check j why) (invalid j why) (start_no (j - i) fs)

pub fields-found : (c : CheckName) (q i end : ℕ) (ks : List Kind) (fs : List Field) → TypesAt c q i ks fs
    → first_broken (field_checks i end ks fs) ≡ found_fields c q i end fs (take_kinds i ks fs)
unfolding first_broken field_checks take_kinds take_kind
fields-found c q i end [] fs h = refl
fields-found c q i end (k ∷ ks) [] h = refl
fields-found c q i end (k ∷ ks) (field p b ∷ fs) h =
    joined (form_checks i k p b) (field_checks (suc i) end ks fs)
    ∙ rw (form i k p b) (go (read_field i k p b) (field_own_lem i k p b) (λ rest. take_kinds (suc i) ks rest) (fields_late (suc i) ks fs) (fields-found c q (suc i) end ks fs h.1))
  where
    front : (v : Value) (o : OrRefused Read) → Late (suc i) (length ks) o → found_fields c q (suc i) end fs o ≡ found_fields c q i end (field p b ∷ fs) (prepend v o)
    front v (good (values vs fs)) l = refl
    front v (refused (no n)) l = refl
    front v (refused (missing j)) l = refl
    front v (refused (invalid j why)) l = let m : j - i ≡ suc (j - suc i) = omega (arith, l.0) in rw m

    go : (o : OrRefused Value) → Own i k o → (more : List Field → OrRefused Read) → Late (suc i) (length ks) (more fs)
        → first_broken (field_checks (suc i) end ks fs) ≡ found_fields c q (suc i) end fs (more fs)
        → and_also (found_form i p o) (first_broken (field_checks (suc i) end ks fs)) ≡ found_fields c q i end (field p b ∷ fs) (and_then (and_rest o fs) more)
    go (good v) w more l e = e ∙ front v (more fs) l
    go (refused (no n)) w more l e = let t = h.0 w.1 in rw (t.0, t.1)
    go (refused (missing j)) w more l e = absurd w
    go (refused (invalid j why)) w more l e = let m : j - i ≡ 0 = omega (arith, w) in rw m
