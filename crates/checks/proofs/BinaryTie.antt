-- The checks of a W36 binary event, and the reader's answer to the same bytes.
use Prim.Native.Nat.{ℕ, zero, suc, ◌+◌, ◌-◌, ◌≤◌}
use mathlib.Core.Path.{◌≡◌, refl, sym, ◌∙◌}
use mathlib.Core.List.{List, [], ◌∷◌, ◌++◌}
use mathlib.Core.Bool.{Bool, true, false, cond}
use native.Mathlib.Nat.{le_of_suc-le-suc, not-suc-le-zero}
use native.Mathlib.Omega.{arith}
use lib.Dec.{eqb, leb, ltb}
use lib.ListN.{length, drop}
use Rattle.text.specs.Bytes.{starts_with}
use Rattle.text.specs.Find.{first_of}
use Rattle.text.specs.Utf8.{utf8, valid_up_to}
use Rattle.text.specs.Field.{Field, field, grow, fields_from}
use Rattle.at.specs.Refusal.{Refusal, no, missing, invalid, OrRefused, good, refused}
use Rattle.at.specs.Event.{Row, kinds_of, Read, values, ReadEvent}
use Rattle.at.specs.Binary.{fields_up_to, read_fields, marker, find_marker, announced, Data, data_at, read_data, with_data, read_marked, read_body, Tried, try_rows, prefix}
use Rattle.at.specs.Binary as reader
use Rattle.at.specs.W36.{binary_table}
use Rattle.at.proofs.RowsLaws.{Each}
use Rattle.checks.specs.Check.{Finding, all_hold, broken, first_broken}
use Rattle.checks.specs.Line.{is_there, start_of, field_checks}
use Rattle.checks.specs.Binary.{field_text, after_marker, data_checks, body_checks, Binary, not_binary, binary, binary_checks}
use Rattle.checks.specs.Steps.{start_no, data_reason, body_reason, binary_reason}
use Rattle.checks.specs.declared.CheckName.TheVariants.{Utf8, Marker, FieldType, LengthBytes, DataBytes}
use Rattle.checks.proofs.CheckLaws.{and_also, joined}
use Rattle.checks.proofs.FieldTie.{Late, fields_late, found_fields, fields-found}
use Rattle.checks.proofs.TextTie.{typeless, no_type}

-- a text that is cut at its first commas only: its fields start where those of the text that is cut at every comma do
grow_start : (p b : ℕ) (fs : List Field) → is_there fs ≡ true → start_of (grow p b fs) ≡ p
grow_start p b (field q f ∷ fs) h = refl
grow_start p b [] h = absurd cc

grow_there : (p b : ℕ) (fs : List Field) → is_there (grow p b fs) ≡ is_there fs
grow_there p b [] = refl
grow_there p b (field q f ∷ fs) = refl

grow-later : (p b j : ℕ) (fs : List Field) → start_no (suc j) (grow p b fs) ≡ start_no (suc j) fs
grow-later p b j [] = refl
grow-later p b j (field q f ∷ fs) = refl

from_there : (p : ℕ) (t : List ℕ) → is_there (fields_from p t) ≡ true
unfolding fields_from
from_there p [] = refl
from_there p (b ∷ t) = go (eqb b 44) (from_there (suc p) t)
  where
    go : (k : Bool) → is_there (fields_from (suc p) t) ≡ true → is_there (cond k (field p [] ∷ fields_from (suc p) t) (grow p b (fields_from (suc p) t))) ≡ true
    go true h = refl
    go false h = grow_there p b (fields_from (suc p) t) ∙ h

upto_there : (n p : ℕ) (t : List ℕ) → is_there (fields_up_to n p t) ≡ true
unfolding fields_up_to
upto_there zero p t = refl
upto_there (suc n) p [] = refl
upto_there (suc n) p (b ∷ t) = go (eqb b 44) (upto_there (suc n) (suc p) t)
  where
    go : (k : Bool) → is_there (fields_up_to (suc n) (suc p) t) ≡ true → is_there (cond k (field p [] ∷ fields_up_to n (suc p) t) (grow p b (fields_up_to (suc n) (suc p) t))) ≡ true
    go true h = refl
    go false h = grow_there p b (fields_up_to (suc n) (suc p) t) ∙ h

from_start : (p : ℕ) (t : List ℕ) → start_of (fields_from p t) ≡ p
unfolding fields_from
from_start p [] = refl
from_start p (b ∷ t) = go (eqb b 44)
  where
    go : (k : Bool) → start_of (cond k (field p [] ∷ fields_from (suc p) t) (grow p b (fields_from (suc p) t))) ≡ p
    go true = refl
    go false = grow_start p b (fields_from (suc p) t) (from_there (suc p) t)

upto_start : (n p : ℕ) (t : List ℕ) → start_of (fields_up_to n p t) ≡ p
unfolding fields_up_to
upto_start zero p t = refl
upto_start (suc n) p [] = refl
upto_start (suc n) p (b ∷ t) = go (eqb b 44)
  where
    go : (k : Bool) → start_of (cond k (field p [] ∷ fields_up_to n (suc p) t) (grow p b (fields_up_to (suc n) (suc p) t))) ≡ p
    go true = refl
    go false = grow_start p b (fields_up_to (suc n) (suc p) t) (upto_there (suc n) (suc p) t)

same_start : (j n p : ℕ) (t : List ℕ) → j ≤ n → start_no j (fields_up_to n p t) ≡ start_no j (fields_from p t)
unfolding fields_from fields_up_to
same_start zero n p t h = upto_start n p t ∙ sym (from_start p t)
same_start (suc j) zero p t h = absurd (not-suc-le-zero h)
same_start (suc j) (suc n) p [] h = refl
same_start (suc j) (suc n) p (b ∷ t) h = go (eqb b 44) (same_start j n (suc p) t (le_of_suc-le-suc h)) (same_start (suc j) (suc n) (suc p) t h)
  where
    go : (k : Bool) → start_no j (fields_up_to n (suc p) t) ≡ start_no j (fields_from (suc p) t) → start_no (suc j) (fields_up_to (suc n) (suc p) t) ≡ start_no (suc j) (fields_from (suc p) t)
        → start_no (suc j) (cond k (field p [] ∷ fields_up_to n (suc p) t) (grow p b (fields_up_to (suc n) (suc p) t)))
        ≡ start_no (suc j) (cond k (field p [] ∷ fields_from (suc p) t) (grow p b (fields_from (suc p) t)))
    go true cut more = cut
    go false cut more = grow-later p b j (fields_up_to (suc n) (suc p) t) ∙ more ∙ sym (grow-later p b j (fields_from (suc p) t))

-- what is found of the data, by the reader's answer
abbrev found_data : ℕ → List ℕ → OrRefused Data → Finding
found_data end t (good d) = all_hold
found_data end t (refused n) = data_reason end t n

data-found : (end p : ℕ) (t : List ℕ) → first_broken (data_checks end t) ≡ found_data end t (read_data p t)
unfolding read_data first_broken data_reason
data-found end p t = go (leb 2 (length t)) refl (leb (announced t) (length t - 2))
  where
    go : (a : Bool) → leb 2 (length t) ≡ a → (b : Bool) → cond a (cond b all_hold (broken DataBytes (no 12) end)) (broken LengthBytes (no 12) end)
        ≡ found_data end t (cond a (cond b (good (data_at (p + 2) (announced t))) (refused (no 12))) (refused (no 12)))
    go false e b = rw e
    go true e false = rw e
    go true e true = refl

data_twelve : (p : ℕ) (t : List ℕ) (n : Refusal) → read_data p t ≡ refused n → n ≡ no 12
unfolding read_data
data_twelve p t n e = go (leb 2 (length t)) (leb (announced t) (length t - 2)) e
  where
    go : (a b : Bool) → cond a (cond b (good (data_at (p + 2) (announced t))) (refused (no 12))) (refused (no 12)) ≡ refused n → n ≡ no 12
    go false b e = cc
    go true false e = cc
    go true true e = absurd cc

-- what is found of a body
abbrev pub found_body : ℕ → List ℕ → OrRefused ReadEvent → Finding
found_body p t (good e) = all_hold
found_body p t (refused n) = body_reason p t n

module _ (r : Row) (h : typeless (kinds_of r) ≡ true) (p : ℕ) (t : List ℕ) where
  abbrev in_text : List Field
  in_text = fields_up_to (length (kinds_of r) - 1) p (field_text t)

  abbrev everywhere : List Field
  everywhere = fields_from p (field_text t)

  abbrev found_here : OrRefused Read → Finding
  found_here o = found_fields (FieldType 2) (start_no 1 everywhere) 1 (p + length (field_text t)) in_text o

  fields_here : first_broken (field_checks 1 (p + length (field_text t)) (kinds_of r) in_text) ≡ found_here (read_fields r p (field_text t))
  unfolding read_fields
  fields_here = fields-found (FieldType 2) (start_no 1 everywhere) 1 (p + length (field_text t)) (kinds_of r) in_text (no_type _ _ 1 (kinds_of r) in_text h)

  late : Late 1 (length (kinds_of r)) (read_fields r p (field_text t))
  unfolding read_fields
  late = fields_late 1 (kinds_of r) in_text

  -- where there is a marker
  module _ (m : ltb (first_of marker t) (length t) ≡ true) where
    as_text : (o : OrRefused Read) → Late 1 (length (kinds_of r)) o → (d : OrRefused Data) → ((n : Refusal) → d ≡ refused n → n ≡ no 12)
        → and_also (found_here o) (found_data (p + length t) (after_marker t) d) ≡ found_body p t (with_data r o d)
    unfolding body_reason
    as_text (good (values vs fs)) l (good (data_at q k)) f = refl
    as_text (good (values vs fs)) l (refused n) f = rw (f n refl, m)
    as_text (refused (no n)) l d f = rw (l, m)
    as_text (refused (missing i)) l d f = rw m
    as_text (refused (invalid i why)) l d f = rw (m, same_start (i - 1) (length (kinds_of r) - 1) p (field_text t) (omega (arith, l.0, l.1)))

    marked : first_broken (field_checks 1 (p + length (field_text t)) (kinds_of r) in_text ++ data_checks (p + length t) (after_marker t)) ≡ found_body p t (read_marked r p t (good (first_of marker t)))
    marked =
        joined (field_checks 1 (p + length (field_text t)) (kinds_of r) in_text) (data_checks (p + length t) (after_marker t))
        ∙ rw (fields_here, data-found (p + length t) (p + first_of marker t + 1) (after_marker t))
        (as_text (read_fields r p (field_text t)) late (read_data (p + first_of marker t + 1) (after_marker t)) (data_twelve (p + first_of marker t + 1) (after_marker t)))

  body-found : first_broken (body_checks r p t) ≡ found_body p t (read_body r p t)
  unfolding body_checks read_body find_marker first_broken body_reason
  body-found = go (ltb (first_of marker t) (length t)) refl (utf8 (field_text t))
    where
      go : (m : Bool) → ltb (first_of marker t) (length t) ≡ m → (u : Bool)
          → cond m (cond u (first_broken (field_checks 1 (p + length (field_text t)) (kinds_of r) in_text ++ data_checks (p + length t) (after_marker t))) (broken Utf8 (no 11) (p + valid_up_to (field_text t)))) (broken Marker (no 12) (p + length t))
          ≡ found_body p t (read_marked r p t (cond m (cond u (good (first_of marker t)) (refused (no 11))) (refused (no 12))))
      go false e u = rw e
      go true e false = rw e
      go true e true = marked e

-- the checks of a binary event find what the reader's answer says, or there is none at all
abbrev pub found_tried : List Row → ℕ → List ℕ → Binary → Tried → Type 0
found_tried rows p s not_binary reader.not_binary = Unit {0}
found_tried rows p s not_binary (reader.tried a) = ⊥
found_tried rows p s (binary checks) reader.not_binary = ⊥
found_tried rows p s (binary checks) (reader.tried (good e)) = first_broken checks ≡ all_hold
found_tried rows p s (binary checks) (reader.tried (refused n)) = first_broken checks ≡ binary_reason rows p s n

rows-found : (rows : List Row) → Each (λ r. typeless (kinds_of r) ≡ true) rows → (p : ℕ) (s : List ℕ) → found_tried rows p s (binary_checks rows p s) (try_rows rows p s)
unfolding binary_checks try_rows binary_reason
rows-found [] h p s = tt
rows-found (r ∷ rs) h p s = go (starts_with s (prefix r)) refl (rows-found rs h.1 p s)
  where
    q : ℕ
    q = p + length (prefix r)

    u : List ℕ
    u = drop (length (prefix r)) s

    of_body : starts_with s (prefix r) ≡ true → (a : OrRefused ReadEvent) → first_broken (body_checks r q u) ≡ found_body q u a → found_tried (r ∷ rs) p s (binary (body_checks r q u)) (reader.tried a)
    of_body e (good ev) f = f
    of_body e (refused n) f = rw e f

    later : starts_with s (prefix r) ≡ false → (b : Binary) (t : Tried) → found_tried rs p s b t → found_tried (r ∷ rs) p s b t
    later e not_binary reader.not_binary f = tt
    later e not_binary (reader.tried a) f = f
    later e (binary checks) reader.not_binary f = f
    later e (binary checks) (reader.tried (good ev)) f = f
    later e (binary checks) (reader.tried (refused n)) f = rw e f

    go : (k : Bool) → starts_with s (prefix r) ≡ k → found_tried rs p s (binary_checks rs p s) (try_rows rs p s)
        → found_tried (r ∷ rs) p s (cond k (binary (body_checks r q u)) (binary_checks rs p s)) (cond k (reader.tried (read_body r q u)) (try_rows rs p s))
    go true e f = of_body e (read_body r q u) (body-found r h.0 q u)
    go false e f = later e (binary_checks rs p s) (try_rows rs p s) f

each_typeless : Each (λ r. typeless (kinds_of r) ≡ true) binary_table
unfolding binary_table
each_typeless = (refl, (refl, tt))

pub binary-found : (p : ℕ) (s : List ℕ) → found_tried binary_table p s (binary_checks binary_table p s) (try_rows binary_table p s)
binary-found = rows-found binary_table each_typeless
