-- UTF-8 by a second road: `utf8`, which scans, says of a text just that it is a run of sequences of Table 3-7, and `valid_up_to` is the length of the
-- longest front that is one. Both are carried to the programs by the functions' own contracts. Assumes nothing.
use mathlib.Core.Path.{◌≡◌, refl, ◌∙◌, sym, ap}
use mathlib.Core.List.{List, [], ◌∷◌, ◌++◌}
use mathlib.Core.Bool.{Bool, true, false, cond, ◌&&◌, ◌||◌, false≢true}
use Prim.Native.Nat.{ℕ, zero, suc, ◌≤◌}
use native.Mathlib.Omega.{arith}
use lib.ListN.{length, take, drop, length-drop, take-append-drop}
use lib.Seq.{length-take-le, take-add, take-length}
use lib.Dec.{leb}
use borrow.Author.Tests.{leb-true}
use contract.Lifetimes.{Lfts}
use denote.Triple.Clauses.{AtExit}
use borrow.Fn.Kinds.{Dens, res_t, ended_of}
use Rattle.text.specs.Bytes.{hex}
use Rattle.text.specs.Utf8.{Range, Row, ◌‥◌, ◌▸◌, fits, inside, row_len, table, seq_len, next, passed, valid_up_to, utf8}
use Rattle.text.specs.Sequences.{each_inside, some_has, all_in_table, joined, Sequenced, LongestFront}
use Rattle.text.proofs.Bools.{and_left, and_right}
use Rattle.text.proofs.Utf8Laws.{seq_len_le, valid_none, valid_more, valid_at-end}
use Rattle.text.proofs.Utf8Joined.{whole, is_whole, utf8_nil, utf8_append, joined as valid_append}
use Rattle.text.proofs.utf8.valid_up_to as valid_up_to_fn
use Rattle.text.proofs.utf8.is_utf8 as is_utf8

-- the ranges that a scan looks for in front of a text, and the bytes of one sequence
fits_each : (rs : List Range) (t : List ℕ) → fits rs t ≡ true → each_inside rs (take (length rs) t) ≡ true
fits_each [] t e = refl
fits_each (r ∷ rs) [] e = e
fits_each (r ∷ rs) (b ∷ t) e = rw (and_left (inside r b) (fits rs t) e) (fits_each rs t (and_right (inside r b) (fits rs t) e))

each_fits : (rs : List Range) (t : List ℕ) → each_inside rs t ≡ true → (fits rs t ≡ true) × (length rs ≡ length t)
each_fits [] [] e = (refl, refl)
each_fits [] (b ∷ t) e = absurd (false≢true e)
each_fits (r ∷ rs) [] e = absurd (false≢true e)
each_fits (r ∷ rs) (b ∷ t) e =
    let ih = each_fits rs t (and_right (inside r b) (each_inside rs t) e) in
    (rw (and_left (inside r b) (each_inside rs t) e) ih.0, ap suc ih.1)

-- where a scan finds a sequence, a row has it
row_has : (rows : List Row) (b : ℕ) (t : List ℕ) (n : ℕ) → row_len rows b t ≡ suc n → some_has rows (b ∷ take n t) ≡ true
row_has [] b t n e = absurd (omega arith)
row_has ((r ▸ rs) ∷ rows) b t n e = go (inside r b) (fits rs t) refl (row_has rows b t n) e
  where
    go : (i f : Bool) → fits rs t ≡ f → (row_len rows b t ≡ suc n → some_has rows (b ∷ take n t) ≡ true)
        → cond i (cond f (suc (length rs)) 0) (row_len rows b t) ≡ suc n
        → (i && each_inside rs (take n t)) || some_has rows (b ∷ take n t) ≡ true
    go true true g ih q = let l : n ≡ length rs = omega arith in rw (l, fits_each rs t g)
    go true false g ih q = absurd (omega arith)
    go false f g ih q = ih q

seq_has : (s : List ℕ) (n : ℕ) → seq_len s ≡ suc n → some_has table (take (suc n) s) ≡ true
unfolding seq_len
seq_has [] n e = absurd (omega arith)
seq_has (b ∷ t) n e = row_has table b t n e

-- the first ranges ascend, so that no two have a byte in common: the first row's starts at lo or later, each other one after the range before it ends
abbrev ascends : ℕ → List Row → Bool
ascends lo [] = true
ascends lo ((l ‥ h ▸ rs) ∷ rows) = leb lo l && leb l h && ascends (suc h) rows

-- computed over the table
table_ascends : ascends 0 table ≡ true
unfolding table
table_ascends = refl

-- a sequence that a row has starts at lo or later, and a scan, which goes by the first row that has its first byte, finds just that sequence
has-row : (rows : List Row) (lo b : ℕ) (t : List ℕ) → ascends lo rows ≡ true → some_has rows (b ∷ t) ≡ true → (lo ≤ b) × (row_len rows b t ≡ suc (length t))
has-row [] lo b t a e = absurd (false≢true e)
has-row ((l ‥ h ▸ rs) ∷ rows) lo b t a e =
    go (inside (l ‥ h) b) (each_inside rs t) refl refl (has-row rows (suc h) b t (and_right (leb lo l && leb l h) (ascends (suc h) rows) a)) e
  where
    ordered : leb lo l && leb l h ≡ true
    ordered = and_left (leb lo l && leb l h) (ascends (suc h) rows) a

    starts : lo ≤ l
    starts = leb-true lo l (and_left (leb lo l) (leb l h) ordered)

    ends : l ≤ h
    ends = leb-true l h (and_right (leb lo l) (leb l h) ordered)

    go : (i f : Bool) → inside (l ‥ h) b ≡ i → each_inside rs t ≡ f
        → (some_has rows (b ∷ t) ≡ true → (suc h ≤ b) × (row_len rows b t ≡ suc (length t)))
        → i && f || some_has rows (b ∷ t) ≡ true → (lo ≤ b) × (cond i (cond (fits rs t) (suc (length rs)) 0) (row_len rows b t) ≡ suc (length t))
    go true true p g ih q = let w = each_fits rs t g in (omega (arith, starts, leb-true l b (and_left (leb l b) (leb b h) p)), rw w.0 (ap suc w.1))
    go true false p g ih q = absurd (omega (arith, leb-true b h (and_right (leb l b) (leb b h) p), (ih q).0))
    go false f p g ih q = (omega (arith, starts, ends, (ih q).0), (ih q).1)

-- one sequence of the table is UTF-8
one-utf8 : (s : List ℕ) → some_has table s ≡ true → utf8 s ≡ true
unfolding seq_len table
one-utf8 [] e = absurd (false≢true e)
one-utf8 (b ∷ t) e = is_whole (b ∷ t) (valid_more (b ∷ t) (length t) (has-row table 0 b t table_ascends e).1 ∙ rw (valid_at-end (b ∷ t) (suc (length t)) (omega arith)) (omega arith))

all_utf8 : (ss : List (List ℕ)) → all_in_table ss ≡ true → utf8 (joined ss) ≡ true
all_utf8 [] e = utf8_nil
all_utf8 (s ∷ ss) e =
    utf8_append s (joined ss) (one-utf8 s (and_left (some_has table s) (all_in_table ss) e)) (all_utf8 ss (and_right (some_has table s) (all_in_table ss) e))

none-sequenced : Sequenced []
none-sequenced = record { sequences = []; in_table = refl; whole = refl }

-- one more sequence in front
more-sequenced : (s t : List ℕ) → some_has table s ≡ true → Sequenced t → Sequenced (s ++ t)
more-sequenced s t e q = record { sequences = s ∷ q.sequences; in_table = rw e q.in_table; whole = ap (λ (u : List ℕ). s ++ u) q.whole }

-- the well-formed front is such a run: one sequence after another, as many as there may be bytes
front_sequenced : (k : ℕ) (s : List ℕ) → length s ≤ k → Sequenced (take (valid_up_to s) s)
front_sequenced zero s l = rw (valid_none s (omega (arith, seq_len_le s))) none-sequenced
front_sequenced (suc k) s l = go (seq_len s) refl (front_sequenced k)
  where
    go : (m : ℕ) → seq_len s ≡ m → ((t : List ℕ) → length t ≤ k → Sequenced (take (valid_up_to t) t)) → Sequenced (take (valid_up_to s) s)
    go zero e ih = rw (valid_none s e) none-sequenced
    go (suc n) e ih =
        rw (valid_more s n e, take-add (suc n) (valid_up_to (drop (suc n) s)) s)
        (more-sequenced (take (suc n) s) _ (seq_has s n e) (ih (drop (suc n) s) (omega (arith, length-drop (suc n) s))))

passed_le : (s : List ℕ) (k : ℕ) → passed s k ≤ length s
unfolding passed
passed_le [] k = omega arith
passed_le (b ∷ t) (suc k) = omega (arith, passed_le t k)
passed_le (b ∷ t) zero = go (seq_len (b ∷ t)) (passed_le t)
  where
    go : (m : ℕ) → ((k : ℕ) → passed t k ≤ length t) → next m (passed t) ≤ suc (length t)
    go zero ih = omega arith
    go (suc k) ih = omega (arith, ih k)

-- THE LAWS. A text is UTF-8 exactly if it is a run of sequences of the table.
pub sequenced-utf8 : (s : List ℕ) → Sequenced s → utf8 s ≡ true
sequenced-utf8 s q = rw q.whole at (all_utf8 q.sequences q.in_table)

pub utf8-sequenced : (s : List ℕ) → utf8 s ≡ true → Sequenced s
utf8-sequenced s e = rw (whole s e, take-length s) at (front_sequenced (length s) s (omega arith))

-- What `valid_up_to` counts is the longest front that is such a run, and no other number is its length.
pub valid_longest : (s : List ℕ) → LongestFront s (valid_up_to s)
unfolding valid_up_to
valid_longest s = record {
  within = passed_le s 0;
  sequenced = front_sequenced (length s) s (omega arith);
  longest = λ m l q. let e = valid_append (take m s) (drop m s) (sequenced-utf8 (take m s) q) in omega (arith, length-take-le m s l, rw (take-append-drop m s) at e);
}

pub longest_valid : (s : List ℕ) (n : ℕ) → LongestFront s n → n ≡ valid_up_to s
longest_valid s n f =
    let g = valid_longest s in
    omega (arith, f.longest (valid_up_to s) g.within g.sequenced, g.longest n f.within f.sequenced)

-- The same of the programs, by what each of them ensures: whatever `valid_up_to` answers is the length of the longest front that is such a run, and
-- `is_utf8` answers true exactly if the text is one.
pub valid_up_to_longest : (κs : Lfts 1) (a : Dens κs valid_up_to_fn.Kinds.ps) (x : (res_t valid_up_to_fn.Kinds.r κs).Denot)
    (e : AtExit (ended_of 1 valid_up_to_fn.Kinds.ps valid_up_to_fn.Kinds.r) κs)
    → valid_up_to_fn.Reads.Post κs a x e → LongestFront a.0.now x
valid_up_to_longest κs a x e p = rw p (valid_longest a.0.now)

pub is-utf8-sequenced : (κs : Lfts 1) (a : Dens κs is_utf8.Kinds.ps) (x : (res_t is_utf8.Kinds.r κs).Denot)
    (e : AtExit (ended_of 1 is_utf8.Kinds.ps is_utf8.Kinds.r) κs)
    → is_utf8.Reads.Post κs a x e → (x ≡ true → Sequenced a.0.now) × (Sequenced a.0.now → x ≡ true)
is-utf8-sequenced κs a x e p = ((λ q. utf8-sequenced a.0.now (sym p ∙ q)), λ q. p ∙ sequenced-utf8 a.0.now q)

-- "é" is one sequence; a surrogate is no run of sequences
e_acute : Sequenced (hex "C3 A9")
unfolding table
e_acute = record { sequences = hex "C3 A9" ∷ []; in_table = refl; whole = refl }

no_surrogate : Sequenced (hex "ED A0 80") → ⊥
unfolding utf8 valid_up_to passed seq_len table
no_surrogate q = false≢true (sequenced-utf8 (hex "ED A0 80") q)
