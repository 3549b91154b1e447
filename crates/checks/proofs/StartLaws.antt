-- Laws of where a field starts: a walk that has passed some fields, and the fields after a colon.
use Prim.Native.Nat.{ℕ, suc, ◌+◌, ◌-◌, ◌≤◌, ◌<◌}
use mathlib.Core.Path.{◌≡◌, refl, sym, ap, ◌∙◌}
use mathlib.Core.List.{List, [], ◌∷◌}
use mathlib.Core.Bool.{true, false, false≢true}
use native.Mathlib.Omega.{arith}
use lib.ListN.{length, take, drop, length-take, length-drop}
use lib.Seq.{drop-drop, drop-nil}
use borrow.Author.Tests.{lt-ltb, le-ltb}
use Rattle.text.specs.Bytes.{bytes, part}
use Rattle.text.specs.Find.{first_of, first_from}
use Rattle.text.specs.Field.{field, next_field}
use Rattle.text.specs.FieldSteps.{left}
use Rattle.std.specs.Prelude.{Option, Some, None, is_some}
use Rattle.std.specs.Option.{unwrap_or}
use Rattle.text.specs.declared.field.Fields.{Fields}
use Rattle.text.specs.declared.field.Next.{Next}
use Rattle.text.proofs.FieldLaws.{step_left, left_in, left_out}
use Rattle.text.proofs.BytesLaws.{part-rest}
use Rattle.checks.proofs.Utf8Bound.{valid_le}
use Rattle.text.proofs.FindLaws.{from_at}
use Rattle.at.specs.Line.{fields_after}
use Rattle.at.proofs.LineLaws.{not_found}
use Rattle.checks.specs.Line.{start_of}
use Rattle.checks.specs.Steps.{start_no}

module _ (s : List ℕ) (w : Fields) where
  pub none_starts : (k : ℕ) → next_field s w ≡ None → start_no k (left s w) ≡ 0
  none_starts k e = let l : left s w ≡ [] = sym (step_left s w) ∙ rw e in rw l (ap start_of (drop-nil k))

  pub passed-field : (k : ℕ) {n : Next} → next_field s w ≡ Some n → start_no (suc k) (left s w) ≡ start_no k (left s n.rest)
  passed-field k {n} e = let l : left s w ≡ field n.start (part s n.start n.len) ∷ left s n.rest = sym (step_left s w) ∙ rw e in rw l

  pub this_field : {n : Next} → next_field s w ≡ Some n → start_no 0 (left s w) ≡ n.start
  this_field {n} e = let l : left s w ≡ field n.start (part s n.start n.len) ∷ left s n.rest = sym (step_left s w) ∙ rw e in rw l

-- what stands from a place on, and that the place past it is a number
pub rest-length : (s t : List ℕ) (start : ℕ) → t ≡ part s start (length s) → length t ≡ length s - start
rest-length s t start e = ap length (e ∙ part-rest s start) ∙ length-drop start s

-- the fields of a text, from the answer of a search for its colon
module _ (s : List ℕ) (start : ℕ) where
  after_colon : (i : ℕ) → first_from (bytes ":") s start ≡ Some i → left s (record { at = i + 1 }) ≡ fields_after start (drop start s)
  unfolding fields_after
  after_colon i e =
      let f = from_at (bytes ":") s start i e in
      let n : first_of (bytes ":") (drop start s) + start ≡ i = omega (arith, f.0) in
      let l : start + first_of (bytes ":") (drop start s) + 1 ≡ i + 1 = omega arith in
      let m : start + (first_of (bytes ":") (drop start s) + 1) ≡ i + 1 = omega arith in
      rw (lt-ltb (first_of (bytes ":") (drop start s)) (length (drop start s)) (omega (arith, f.1, length-drop start s)), l, drop-drop (first_of (bytes ":") (drop start s) + 1) start s, m)
      (left_in s (record { at = i + 1 }) (omega (arith, f.1)))

  no_colon : first_from (bytes ":") s start ≡ None → left s (record { at = length s + 1 }) ≡ fields_after start (drop start s)
  unfolding fields_after
  no_colon e =
      rw (le-ltb (first_of (bytes ":") (drop start s)) (length (drop start s)) (not_found (bytes ":") s start e)) (left_out s (record { at = length s + 1 }) (omega arith))

-- either way
module _ (s : List ℕ) (start : ℕ) where
  pub past_colon : (o : Option ℕ) → o ≡ first_from (bytes ":") s start → left s (record { at = unwrap_or o (length s) + 1 }) ≡ fields_after start (drop start s)
  past_colon (Some i) e = after_colon s start i (sym e)
  past_colon None e = no_colon s start (sym e)

  pub colon-inside : (o : Option ℕ) → o ≡ first_from (bytes ":") s start → unwrap_or o (length s) ≤ length s
  colon-inside (Some i) e = let f = from_at (bytes ":") s start i (sym e) in omega (arith, f.1)
  colon-inside None e = omega arith

-- the front of a text
pub part_front : (s : List ℕ) (n : ℕ) → part s 0 n ≡ take n s
unfolding part
part_front s n = refl

-- the answer of a search from the start
pub found_first : (t s : List ℕ) {i : ℕ} → first_from t s 0 ≡ Some i → (i ≡ first_of t s) × (first_of t s < length s)
found_first t s {i} e = let r = from_at t s 0 i e in let m : i ≡ first_of t s = r.0 ∙ omega arith in (m, rw (← m) r.1)

pub found_nowhere : (t s : List ℕ) → first_from t s 0 ≡ None → length s ≤ first_of t s
found_nowhere t s e = not_found t s 0 e

pub found_some : (t s : List ℕ) (o : Option ℕ) → o ≡ first_from t s 0 → is_some o ≡ true → first_of t s < length s
found_some t s (Some i) e h = (found_first t s (sym e)).1
found_some t s None e h = absurd (false≢true h)

pub found-none : (t s : List ℕ) (o : Option ℕ) → o ≡ first_from t s 0 → is_some o ≡ false → length s ≤ first_of t s
found-none t s (Some i) e h = absurd (false≢true (sym h))
found-none t s None e h = found_nowhere t s (sym e)

-- what is cut off a slice, for the goals that need no more
pub part_room : (s : List ℕ) (start n : ℕ) → length (part s start n) ≤ length s - start
unfolding part
part_room s start n = simp (length-take, length-drop) (omega arith)

pub ruleset cuts = (part-rest, part_room, valid_le)

pub ruleset colons = (past_colon, colon-inside)
