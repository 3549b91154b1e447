-- The fields of a line one after the other: what is still to be written from a field on, and whether it can be written.
use borrow.Author.Tests.{le-leb}
use mathlib.Core.Bool.{Bool}
use mathlib.Core.List.{List, [], ◌∷◌, ◌++◌, append-nil, map}
use mathlib.Core.Path.{◌≡◌, refl, ap, sym, ◌∙◌}
use Prim.Native.Nat.{ℕ, ◌+◌, ◌≤◌, ◌<◌}
use native.Mathlib.Numerals.{add-one}
use native.Mathlib.Omega.{arith}
use lib.ListN.{length, take, drop, get_or, length-append, take-append-drop, drop_of_length-le}
use lib.Seq.{drop-cons}
use Rattle.std.specs.Prelude.{Option, Some, None}
use Rattle.std.specs.List.{list_all}
use Rattle.text.proofs.PutAppend.{after_append}
use Rattle.text.proofs.PutLaws.{room, ends}
use Rattle.text.specs.Field.{join}
use Rattle.text.specs.Put.{placed, wrote, after}
use Rattle.at.specs.Parts.{value_of}
use Rattle.at.specs.declared.parts.Value as code
use Rattle.writer.specs.Line.{content_of, written, after_name}
use Rattle.writer.specs.Steps.{texts}
use Rattle.writer.specs.Write.{writable_field, writable_fields}

-- each text after a byte: the first after this one, the others after a comma (44)
unfoldable pub separated : ℕ → List (List ℕ) → List ℕ
separated sep [] = []
separated sep (f ∷ fs) = sep ∷ (f ++ separated 44 fs)

joined : (f : List ℕ) (fs : List (List ℕ)) → join (f ∷ fs) ≡ f ++ separated 44 fs
unfolding join separated
joined f [] = sym (append-nil f)
joined f (g ∷ fs) = rw (joined g fs)

pub after_separated : (fs : List (List ℕ)) → after_name fs ≡ separated 58 fs
unfolding after_name separated
after_separated [] = refl
after_separated (f ∷ fs) = rw (joined f fs)

-- they are as long after any other byte
pub as_long_after : (sep : ℕ) (fs : List (List ℕ)) → length (after_name fs) ≡ length (separated sep fs)
unfolding separated
as_long_after sep fs = ap length (after_separated fs) ∙ go fs
  where
    go : (fs : List (List ℕ)) → length (separated 58 fs) ≡ length (separated sep fs)
    go [] = refl
    go (f ∷ fs) = refl

-- the fields from one on: that one, and those after it
module _ (sep : ℕ) (src : List ℕ) (fields : List code.Value) (i : ℕ) where
  pub separated-next : (d : code.Value) → i < length fields
      → separated sep (texts src (drop i fields)) ≡ sep ∷ (written (content_of src (value_of (get_or fields i d))) ++ separated 44 (texts src (drop (i + 1) fields)))
  unfolding separated
  separated-next d h = rw (add-one i, drop-cons fields i d h)

  pub length-next : (d : code.Value) → i < length fields
      → length (separated sep (texts src (drop i fields))) ≡ 1 + length (written (content_of src (value_of (get_or fields i d)))) + length (separated 44 (texts src (drop (i + 1) fields)))
  length-next d h =
      let l = length-append (written (content_of src (value_of (get_or fields i d)))) (separated 44 (texts src (drop (i + 1) fields))) in
      ap length (separated-next d h) ∙ omega (arith, l)

  -- after the last one
  pub separated-end : length fields ≤ i → separated sep (texts src (drop i fields)) ≡ []
  unfolding separated
  separated-end h = rw (drop_of_length-le fields {i = i} h)

-- whether each field can be written
pub writable_all : (marked : Bool) (src : List ℕ) (fields : List code.Value)
    → writable_fields marked src (map value_of fields) ≡ list_all (λ v. writable_field marked src (value_of v)) fields
unfolding writable_fields
writable_all marked src [] = refl
writable_all marked src (v ∷ vs) = rw (writable_all marked src vs)

-- where there is room, a put answers the place past its bytes
module _ (b : List ℕ) (at : ℕ) (ds : List ℕ) (r : Option ℕ) (e : r ≡ wrote b at ds) where
  pub not_refused : at + length ds ≤ length b → r ≡ None → ⊥
  not_refused h n = let s : None ≡ Some (at + length ds) = sym n ∙ e ∙ (room b at ds h).0 in cc

  pub put_to : (to : ℕ) → r ≡ Some to → to ≡ at + length ds
  put_to to s = (ends b at ds to (sym e ∙ s)).1

-- nothing put at a place; and a turn of a loop that puts fields: a byte, a text and what stands after them
pub after_nothing : (b : List ℕ) (k : ℕ) → k ≤ length b → after b k [] ≡ b
unfolding after placed
after_nothing b k h =
    let n : k + 0 ≡ k = omega arith in
    rw (le-leb (k + 0) (length b) (omega arith), append-nil (take k b), n) (take-append-drop k b)

pub after_turn : (b : List ℕ) (k sep : ℕ) (x rest : List ℕ) → k + (1 + length x + length rest) ≤ length b
    → after (after (after b k (sep ∷ [])) (k + 1) x) (k + 1 + length x) rest ≡ after b k (sep ∷ (x ++ rest))
after_turn b k sep x rest h =
    let n : k + 1 + length x ≡ k + length (sep ∷ x) = omega arith in
    rw (after_append b k (sep ∷ []) x (omega arith), n) (after_append b k (sep ∷ x) rest (omega arith))
