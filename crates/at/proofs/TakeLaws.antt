-- Laws of the loop that takes a row's fields: the values of those that were taken, and what is left to take.
use Prim.Native.Nat.{ℕ, zero, suc, ◌+◌, ◌%◌, ◌^◌, ◌≤◌, ◌<◌}
use mathlib.Core.Path.{◌≡◌, refl, sym, ap}
use mathlib.Core.List.{List, [], ◌∷◌, ◌++◌}
use native.Mathlib.Nat.{mod-eq_of_lt, add-zero, le_of_suc-le-suc, not-suc-le-zero}
use native.Mathlib.Numerals.{add-one}
use native.Mathlib.Omega.{arith}
use lib.ListN.{length, get_or, take, drop, set, drop_of_length-le}
use lib.Seq.{drop-cons, take_all, get_or-set_same, get_or-set_other}
use Rattle.std.specs.Prelude.{Some, None}
use Rattle.text.specs.Bytes.{part}
use Rattle.text.specs.Field.{Field as Part, next_field}
use Rattle.text.specs.FieldSteps.{left}
use Rattle.text.specs.declared.field.Fields.{Fields}
use Rattle.text.specs.declared.field.Next.{Next}
use Rattle.at.specs.Refusal.{Refusal, missing, OrRefused, good, refused}
use Rattle.at.specs.Event.{Value, read_field, Read, values, prepend, take_kinds}
use Rattle.at.specs.Steps.{kind_of, kinds_in, no_field, value_of, values_of, without_rest}
use Rattle.at.specs.declared.field.Field.{Field}
use Rattle.at.proofs.FieldLaws.{no-field, some-field}

-- a number of a width is what is left of it in that width
pub kept : (w n : ℕ) → n < 2 ^ w → n % 2 ^ w ≡ n
kept w n h = mod-eq_of_lt h

-- values in front of what is read after them
abbrev pub ahead : List Value → OrRefused Read → OrRefused Read
ahead [] r = r
ahead (v ∷ vs) r = prepend v (ahead vs r)

ahead_snoc : (vs : List Value) (v : Value) (r : OrRefused Read) → ahead (vs ++ v ∷ []) r ≡ ahead vs (prepend v r)
ahead_snoc [] v r = refl
ahead_snoc (u ∷ vs) v r = ap (prepend u) (ahead_snoc vs v r)

pub ahead_refused : (vs : List Value) (n : Refusal) → ahead vs (refused n) ≡ refused n
ahead_refused [] n = refl
ahead_refused (v ∷ vs) n = rw (ahead_refused vs n)

ahead_values : (vs : List Value) (fs : List Part) → ahead vs (good (values [] fs)) ≡ good (values vs fs)
ahead_values [] fs = refl
ahead_values (v ∷ vs) fs = rw (ahead_values vs fs)

-- one value more stands in the fields
values-from : (ks : List ℕ) (i j : ℕ) (fs : List Field) (f : Field) → i < length ks → j + i < length fs
    → values_of (kinds_in (take (suc i) ks)) j (set fs (j + i) f) ≡ values_of (kinds_in (take i ks)) j fs ++ value_of (kind_of (get_or ks i 0)) f ∷ []
unfolding values_of
values-from [] i j fs f h l = absurd (not-suc-le-zero h)
values-from (k ∷ ks) zero j fs f h l = let m : j < length fs = omega arith in rw (add-zero j, get_or-set_same fs j f no_field m)
values-from (k ∷ ks) (suc i) j fs f h l =
    let o : j ≡ j + suc i → ⊥ = λ e. omega arith in
    let m : suc j + i ≡ j + suc i = omega arith in
    let b : suc j + i < length fs = omega arith in
    rw (get_or-set_other fs (j + suc i) j f no_field o, ← m, values-from ks i (suc j) fs f (le_of_suc-le-suc h) b)

values-more : (ks : List ℕ) (i : ℕ) (fs : List Field) (f : Field) → i < length ks → i < length fs
    → values_of (kinds_in (take (suc i) ks)) 0 (set fs i f) ≡ values_of (kinds_in (take i ks)) 0 fs ++ value_of (kind_of (get_or ks i 0)) f ∷ []
values-more ks i fs f h l =
    let m : 0 + i ≡ i = omega arith in
    let b : 0 + i < length fs = omega arith in
    rw m at (values-from ks i 0 fs f h b)

-- what is left to take, by what the walk finds
module _ (ks : List ℕ) (i : ℕ) (s : List ℕ) (w : Fields) (h : i < length ks) where
  pub take-missing : next_field s w ≡ None → take_kinds (suc i) (kinds_in (drop i ks)) (left s w) ≡ refused (missing (suc i))
  unfolding take_kinds
  take-missing e = rw (drop-cons ks i 0 h, no-field (suc i) (kind_of (get_or ks i 0)) s w e)

  module _ (n : Next) (e : next_field s w ≡ Some n) where
    pub take-refused : (m : Refusal) → read_field (suc i) (kind_of (get_or ks i 0)) n.start (part s n.start n.len) ≡ refused m → take_kinds (suc i) (kinds_in (drop i ks)) (left s w) ≡ refused m
    unfolding take_kinds
    take-refused m r = rw (drop-cons ks i 0 h, some-field (suc i) (kind_of (get_or ks i 0)) s w e, r)

    take-one : (v : Value) → read_field (suc i) (kind_of (get_or ks i 0)) n.start (part s n.start n.len) ≡ good v
        → take_kinds (suc i) (kinds_in (drop i ks)) (left s w) ≡ prepend v (take_kinds (suc (suc i)) (kinds_in (drop (suc i) ks)) (left s n.rest))
    unfolding take_kinds
    take-one v r = rw (drop-cons ks i 0 h, some-field (suc i) (kind_of (get_or ks i 0)) s w e, r)

    pub one_more : (fs : List Field) (f : Field) → i < length fs → read_field (suc i) (kind_of (get_or ks i 0)) n.start (part s n.start n.len) ≡ good (value_of (kind_of (get_or ks i 0)) f)
        → ahead (values_of (kinds_in (take i ks)) 0 fs) (take_kinds (suc i) (kinds_in (drop i ks)) (left s w))
        ≡ ahead (values_of (kinds_in (take (i + 1) ks)) 0 (set fs i f)) (take_kinds (suc (i + 1)) (kinds_in (drop (i + 1) ks)) (left s n.rest))
    one_more fs f l r =
        rw (take-one (value_of (kind_of (get_or ks i 0)) f) r, add-one i, values-more ks i fs f h l)
        (sym (ahead_snoc (values_of (kinds_in (take i ks)) 0 fs) (value_of (kind_of (get_or ks i 0)) f) (take_kinds (suc (suc i)) (kinds_in (drop (suc i) ks)) (left s n.rest))))

pub all_taken : (ks : List ℕ) (i : ℕ) (fs : List Field) (ps : List Part) → length ks ≤ i
    → without_rest (ahead (values_of (kinds_in (take i ks)) 0 fs) (take_kinds (suc i) (kinds_in (drop i ks)) ps)) ≡ good (values (values_of (kinds_in ks) 0 fs) [])
unfolding take_kinds
all_taken ks i fs ps h = rw (take_all i ks h, drop_of_length-le ks h, ahead_values (values_of (kinds_in ks) 0 fs) ps)
