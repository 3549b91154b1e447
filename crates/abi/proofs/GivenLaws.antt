-- Laws of a row that is given: a number that fits, and the values that are taken from left to right. Assumes nothing.
use Prim.Native.Nat.{ℕ, zero, suc, ◌+◌, ◌*◌, ◌≤◌, ◌<◌}
use mathlib.Core.Path.{◌≡◌, refl, sym, ap, ◌∙◌}
use mathlib.Core.List.{List, [], ◌∷◌, ◌++◌}
use mathlib.Core.Bool.{Bool, true, false, cond, ◌&&◌, false≢true}
use native.Mathlib.Nat.{le_of_suc-le-suc, not-suc-le-zero}
use native.Mathlib.Numerals.{add-one}
use native.Mathlib.Omega.{arith}
use borrow.Author.Tests.{ltb-true, ltb-false, leb-true, le-ltb, lt-leb, eq-eqb, ne_eqb}
use lib.Dec.{eqb, ltb, leb}
use lib.ListN.{length, take, drop, get_or, set, replicate, length-append, length-map, length-set, drop_of_length-le}
use lib.Seq.{drop-cons, drop-drop, get_or-drop, get_or-take, length-take-le, take_all, take_at}
use Rattle.text.proofs.Bools.{either, and_left, and_right}
use Rattle.at.specs.Refusal.{good, refused, no}
use Rattle.at.specs.Event.{Kind, bits, text, ip_type, bt_type, protocol, reason, Row, kinds_of, Value, num, place, event}
use Rattle.at.specs.Parts.{value_of, values_of, row_no, part_of, part_no, parts_of}
use Rattle.at.specs.Table.{letters_at, spelled}
use Rattle.at.specs.Typed.{holds}
use Rattle.at.specs.Steps.{kind_of, kinds_in, Legible}
use Rattle.at.specs.W26 as w26
use Rattle.at.specs.W36 as w36
use Rattle.at.proofs.TableLaws.{row_texts, legible-row}
use Rattle.at.proofs.TableTests.{roomy-w26, legible-w26, roomy-w36}
use Rattle.at.specs.declared.parts.Value as part
use Rattle.abi.specs.Given.{number, width, value_at, values_at, all_hold, value_kinds, event_in}
use Rattle.abi.specs.Steps.{Gives, kinds_for, seven_at_most, Few}
use Rattle.std.specs.Prelude.{Result, Ok, Err}
use Rattle.at.specs.declared.parts.Parts.{Parts}
use Rattle.abi.specs.declared.given.RowError.{RowError}
use Rattle.abi.specs.declared.given.RowError.TheVariants.{Invalid}

-- One value

pub width-most : (k : Kind) → width k ≤ 2
width-most (bits w) = omega arith
width-most text = omega arith
width-most ip_type = omega arith
width-most bt_type = omega arith
width-most protocol = omega arith
width-most reason = omega arith

-- two numbers are a place, one is itself
pub two_numbers : (k : Kind) (row : List ℕ) (at : ℕ) → width k ≡ 2 → value_at k row at ≡ place (number row at) (number row (suc at))
two_numbers (bits w) row at h = absurd (omega arith)
two_numbers text row at h = refl
two_numbers ip_type row at h = absurd (omega arith)
two_numbers bt_type row at h = absurd (omega arith)
two_numbers protocol row at h = absurd (omega arith)
two_numbers reason row at h = absurd (omega arith)

pub one_number : (k : Kind) (row : List ℕ) (at : ℕ) → (width k ≡ 2 → ⊥) → value_at k row at ≡ num (number row at)
one_number (bits w) row at h = refl
one_number text row at h = absurd (h refl)
one_number ip_type row at h = refl
one_number bt_type row at h = refl
one_number protocol row at h = refl
one_number reason row at h = refl

-- a number that fits a kind of a letter has at most 32 bits, unless it is the place of a text
record Small (k : Kind) : Type 0 where
  pub below : (n : ℕ) → (width k ≡ 2 → ⊥) → holds k n ≡ true → n < 4294967296

small : (k : Kind) → ((n : ℕ) → 4294967296 ≤ n → holds k n ≡ false) → Small k
small k far = record { below = λ n w e. go n e (ltb n 4294967296) refl }
  where
    go : (n : ℕ) → holds k n ≡ true → (b : Bool) → ltb n 4294967296 ≡ b → n < 4294967296
    go n e true t = ltb-true n 4294967296 t
    go n e false t = absurd (false≢true (sym (far n (ltb-false n 4294967296 t)) ∙ e))

narrow_letter : (c : ℕ) → Small (kind_of c)
unfolding kind_of
narrow_letter c =
    either Small (eqb c 98) (small (bits 8) (λ n h. le-ltb n 256 (omega arith)))
    (either Small (eqb c 119) (small (bits 16) (λ n h. le-ltb n 65536 (omega arith)))
    (either Small (eqb c 108) (small (bits 32) (λ n h. le-ltb n 4294967296 h))
    (either Small (eqb c 105) (small ip_type (λ n h. rw (ne_eqb n 2 (λ e. omega arith), ne_eqb n 3 (λ e. omega arith))))
    (either Small (eqb c 116) (small bt_type (λ n h. ne_eqb n 1 (λ e. omega arith)))
    (either Small (eqb c 112) (small protocol (λ n h. rw (ne_eqb n 1 (λ e. omega arith), ne_eqb n 2 (λ e. omega arith), ne_eqb n 6 (λ e. omega arith))))
    (either Small (eqb c 114) (small reason (λ n h. lt-leb n 5 (omega arith))) (record { below = λ n w e. absurd (w refl) })))))))

pub narrow : (c n : ℕ) → (width (kind_of c) ≡ 2 → ⊥) → holds (kind_of c) n ≡ true → n < 4294967296
narrow c n w e = (narrow_letter c).below n w e

-- The kinds of the values

after_all : (ks : List Kind) (i : ℕ) → get_or (ks ++ text ∷ []) i text ≡ get_or ks i text
after_all [] zero = refl
after_all [] (suc i) = refl
after_all (k ∷ ks) zero = refl
after_all (k ∷ ks) (suc i) = after_all ks i

module _ (letters : List ℕ) (count : ℕ) (h : count ≤ length letters + 1) where
  pub kinds-length : length (kinds_for letters count) ≡ count
  kinds-length = length-take-le count (kinds_in letters ++ text ∷ []) (simp (length-append, length-map) (omega arith))

  pub kind_in : (i : ℕ) → i < count → get_or (kinds_for letters count) i text ≡ get_or (kinds_in letters) i text
  kind_in i l = get_or-take count (kinds_in letters ++ text ∷ []) i text l ∙ after_all (kinds_in letters) i

-- The values, taken from left to right

pub values_length : (ks : List Kind) (row : List ℕ) (k : ℕ) → length (values_at ks row k) ≡ length ks
unfolding values_at
values_length [] row k = refl
values_length (kind ∷ ks) row k = ap suc (values_length ks row (k + width kind))

-- parts that hold the first i values, and then one more
set-taken : (ps : List part.Value) (vs : List Value) (i : ℕ) (p : part.Value) → i < length ps → i < length vs
    → ((j : ℕ) → get_or ps j (part.TheVariants.Number 0) ≡ part_no (take i vs) j) → p ≡ part_no vs i
    → (j : ℕ) → get_or (set ps i p) j (part.TheVariants.Number 0) ≡ part_no (take (suc i) vs) j
set-taken [] vs i p l m h e j = absurd (not-suc-le-zero l)
set-taken (q ∷ ps) [] i p l m h e j = absurd (not-suc-le-zero m)
set-taken (q ∷ ps) (v ∷ vs) zero p l m h e zero = e
set-taken (q ∷ ps) (v ∷ vs) zero p l m h e (suc j) = h (suc j)
set-taken (q ∷ ps) (v ∷ vs) (suc i) p l m h e zero = h zero
set-taken (q ∷ ps) (v ∷ vs) (suc i) p l m h e (suc j) =
    set-taken ps vs i p (le_of_suc-le-suc l) (le_of_suc-le-suc m) (λ j. h (suc j)) e j

-- a list of seven is its seven elements
sevenths : (ps : List part.Value) (z : part.Value) → length ps ≡ 7
    → ps ≡ get_or ps 0 z ∷ get_or ps 1 z ∷ get_or ps 2 z ∷ get_or ps 3 z ∷ get_or ps 4 z ∷ get_or ps 5 z ∷ get_or ps 6 z ∷ []
sevenths [] z h = absurd (omega arith)
sevenths (a ∷ []) z h = absurd (omega arith)
sevenths (a ∷ b ∷ []) z h = absurd (omega arith)
sevenths (a ∷ b ∷ c ∷ []) z h = absurd (omega arith)
sevenths (a ∷ b ∷ c ∷ d ∷ []) z h = absurd (omega arith)
sevenths (a ∷ b ∷ c ∷ d ∷ e ∷ []) z h = absurd (omega arith)
sevenths (a ∷ b ∷ c ∷ d ∷ e ∷ f ∷ []) z h = absurd (omega arith)
sevenths (a ∷ b ∷ c ∷ d ∷ e ∷ f ∷ g ∷ []) z h = refl
sevenths (a ∷ b ∷ c ∷ d ∷ e ∷ f ∷ g ∷ k ∷ ps) z h = absurd (omega arith)

-- what is known after i values, the next of which stands at a place
pub record Taking (ks : List Kind) (row : List ℕ) (ps : List part.Value) (at i : ℕ) : Type 0 where
  pub near : at ≤ 2 + 2 * i
  pub seven : length ps ≡ 7
  pub fit_so_far : all_hold ks row 2 ≡ all_hold (drop i ks) row at
  pub left : drop i (values_at ks row 2) ≡ values_at (drop i ks) row at
  pub kept : (j : ℕ) → get_or ps j (part.TheVariants.Number 0) ≡ part_no (take i (values_at ks row 2)) j

none_kept : (n j : ℕ) → get_or (replicate n (part.TheVariants.Number 0)) j (part.TheVariants.Number 0) ≡ part.TheVariants.Number 0
none_kept zero j = refl
none_kept (suc n) zero = refl
none_kept (suc n) (suc j) = none_kept n j

module _ (ks : List Kind) (row : List ℕ) where
  pub taking_none : Taking ks row (replicate 7 (part.TheVariants.Number 0)) 2 0
  taking_none = record { near = omega arith; seven = refl; fit_so_far = refl; left = refl; kept = none_kept 7 }

  fit_next : (at i : ℕ) → i < length ks
      → all_hold (drop i ks) row at ≡ holds (get_or ks i text) (number row at) && all_hold (drop (suc i) ks) row (at + width (get_or ks i text))
  unfolding all_hold
  fit_next at i h = rw (drop-cons ks i text h)

  value-next : (at i : ℕ) → i < length ks
      → values_at (drop i ks) row at ≡ value_at (get_or ks i text) row at ∷ values_at (drop (suc i) ks) row (at + width (get_or ks i text))
  unfolding values_at
  value-next at i h = rw (drop-cons ks i text h)

  module _ (ps : List part.Value) (at i : ℕ) (t : Taking ks row ps at i) where
    pub taking_next : i < length ks → i < 7 → holds (get_or ks i text) (number row at) ≡ true
        → Taking ks row (set ps i (part_of (value_at (get_or ks i text) row at))) (at + width (get_or ks i text)) (i + 1)
    taking_next h l e =
        let vs = values_at ks row 2 in
        let k = get_or ks i text in
        let next = t.left ∙ value-next at i h in
        let z : i + 0 ≡ i = omega arith in
        let first : get_or vs i (num 0) ≡ value_at k row at = rw z at (sym (get_or-drop i vs 0 (num 0))) ∙ ap (λ (l : List Value). get_or l 0 (num 0)) next in
        let rest : drop (i + 1) vs ≡ values_at (drop (suc i) ks) row (at + width k) = sym (drop-drop 1 i vs) ∙ ap (drop 1) next in
        let more : i < length vs = omega (arith, values_length ks row 2) in
        rw (add-one i) (record {
          near = omega (arith, t.near, width-most k);
          seven = length-set ps i _ ∙ t.seven;
          fit_so_far = t.fit_so_far ∙ fit_next at i h ∙ rw e;
          left = rw (add-one i) at rest;
          kept = set-taken ps vs i _ (omega (arith, t.seven)) more t.kept (ap part_of (sym first));
        })

    pub taking_stopped : i < length ks → holds (get_or ks i text) (number row at) ≡ false → all_hold ks row 2 ≡ false
    taking_stopped h e = t.fit_so_far ∙ fit_next at i h ∙ rw e

    pub taking_fits : length ks ≤ i → all_hold ks row 2 ≡ true
    unfolding all_hold
    taking_fits h = t.fit_so_far ∙ rw (drop_of_length-le ks {i = i} h)

    taking_done : length ks ≤ i → (j : ℕ) → get_or ps j (part.TheVariants.Number 0) ≡ part_no (values_at ks row 2) j
    taking_done h j = rw (take_all i (values_at ks row 2) (omega (arith, values_length ks row 2))) at (t.kept j)

    pub taking_whole : length ks ≤ i → ps ≡ (parts_of 0 (values_at ks row 2)).values
    taking_whole h =
        let k = taking_done h in
        sevenths ps (part.TheVariants.Number 0) t.seven ∙ rw (k 0, k 1, k 2, k 3, k 4, k 5, k 6)

-- The event of a row

value_of_part : (v : Value) → value_of (part_of v) ≡ v
value_of_part (num n) = refl
value_of_part (place p n) = refl

first-seven : (vs : List Value) → length vs ≤ 7
    → take (length vs) (get_or vs 0 (num 0) ∷ get_or vs 1 (num 0) ∷ get_or vs 2 (num 0) ∷ get_or vs 3 (num 0) ∷ get_or vs 4 (num 0) ∷ get_or vs 5 (num 0) ∷ get_or vs 6 (num 0) ∷ []) ≡ vs
first-seven [] h = refl
first-seven (a ∷ []) h = refl
first-seven (a ∷ b ∷ []) h = refl
first-seven (a ∷ b ∷ c ∷ []) h = refl
first-seven (a ∷ b ∷ c ∷ d ∷ []) h = refl
first-seven (a ∷ b ∷ c ∷ d ∷ e ∷ []) h = refl
first-seven (a ∷ b ∷ c ∷ d ∷ e ∷ f ∷ []) h = refl
first-seven (a ∷ b ∷ c ∷ d ∷ e ∷ f ∷ g ∷ []) h = refl
first-seven (a ∷ b ∷ c ∷ d ∷ e ∷ f ∷ g ∷ x ∷ vs) h = absurd (omega arith)

-- up to seven values in parts are those values
values_of_parts : (i : ℕ) (vs : List Value) → length vs ≤ 7 → values_of (parts_of i vs) ≡ vs
values_of_parts i vs h = simp value_of_part (first-seven vs h)

-- the row with a number, and the kinds of its values, which the letters say
pub record Found (texts : ℕ) (rows : List Row) (letters : List ℕ) (i count : ℕ) : Type 0 where
  pub it : Row
  pub there : row_no rows i ≡ good it
  pub kinds : kinds_for letters count ≡ value_kinds texts i it
  pub few : count ≤ 7
  pub enough : count ≤ length letters + 1

at-most-seven : (texts k : ℕ) (rows : List Row) (i : ℕ) (r : Row) → seven_at_most texts k rows ≡ true → row_no rows i ≡ good r → length (value_kinds texts (k + i) r) ≤ 7
unfolding row_no seven_at_most
at-most-seven texts k [] i r t e = let z : ◌≡◌ {A = ℕ} 0 1 = cc in absurd (omega arith)
at-most-seven texts k (q ∷ rows) zero r t e =
    let f : q ≡ r = cc in
    let z : k ≡ k + 0 = omega arith in
    rw (f, z) at (leb-true (length (value_kinds texts k q)) 7 (and_left (leb (length (value_kinds texts k q)) 7) (seven_at_most texts (suc k) rows) t))
at-most-seven texts k (q ∷ rows) (suc i) r t e =
    let z : suc k + i ≡ k + suc i = omega arith in
    rw z at (at-most-seven texts (suc k) rows i r (and_right (leb (length (value_kinds texts k q)) 7) (seven_at_most texts (suc k) rows) t) e)

text-kinds : (letters : List ℕ) → kinds_for letters (length letters) ≡ kinds_in letters
text-kinds letters = take_at (kinds_in letters) (text ∷ []) (length letters) (length-map letters kind_of)

data-kinds : (letters : List ℕ) → kinds_for letters (length letters + 1) ≡ kinds_in letters ++ text ∷ []
data-kinds letters = take_all (length letters + 1) (kinds_in letters ++ text ∷ []) (simp (length-append, length-map) (omega arith))

-- the letters of a table's row say the kinds of its fields, and data after them are like a text
pub found : (texts : ℕ) (rows : List Row) (s : List ℕ) (i : ℕ) (letters : List ℕ) → Few texts rows s → i < length rows → letters ≡ letters_at s i
    → (b : Bool) → ltb i texts ≡ b → Found texts rows letters i (cond b (length letters) (length letters + 1))
found texts rows s i letters f h l =
    let q = row_texts rows s i f.tabled h in
    let z : 0 + i ≡ i = omega arith in
    go q.0 q.1 (ap kinds_in (l ∙ q.3) ∙ legible-row rows i q.0 f.legible q.1) (rw z at (at-most-seven texts 0 rows i q.0 f.seven q.1))
  where
    go : (r : Row) → row_no rows i ≡ good r → kinds_in letters ≡ kinds_of r → length (value_kinds texts i r) ≤ 7
        → (b : Bool) → ltb i texts ≡ b → Found texts rows letters i (cond b (length letters) (length letters + 1))
    go r e says most true t =
        record {
          it = r;
          there = e;
          kinds = text-kinds letters ∙ says ∙ rw t;
          few = omega (arith, rw (t, ← says, length-map letters kind_of) at most);
          enough = omega arith;
        }
    go r e says most false t =
        record {
          it = r;
          there = e;
          kinds = data-kinds letters ∙ rw (t, says);
          few = omega (arith, rw (t, ← says, length-append (kinds_in letters) (text ∷ []), length-map letters kind_of) at most);
          enough = omega arith;
        }

-- what is given is the event in the row
pub gives : (texts : ℕ) (rows : List Row) (row letters : List ℕ) (count : ℕ) {g : Result Parts RowError} → Found texts rows letters (number row 1) count → 17 ≤ length row → number row 0 ≡ 0
    → g ≡ cond (all_hold (kinds_for letters count) row 2) (Ok (parts_of (number row 1) (values_at (kinds_for letters count) row 2))) (Err Invalid)
    → Gives rows g (event_in texts rows row)
unfolding event_in
gives texts rows row letters count f long begins e =
    rw (e, le-ltb (length row) 17 long, eq-eqb (number row 0) 0 begins, f.there, ← f.kinds) (go (all_hold (kinds_for letters count) row 2))
  where
    vs : List Value
    vs = values_at (kinds_for letters count) row 2

    small : length vs ≤ 7
    small = omega (arith, values_length (kinds_for letters count) row 2, kinds-length letters count f.enough, f.few)

    go : (b : Bool)
        → Gives rows (cond b (Ok (parts_of (number row 1) vs)) (Err Invalid)) (cond b (good (event f.it vs)) (refused (no 253)))
    go true = (event f.it vs, rw (f.there, values_of_parts (number row 1) vs small), refl)
    go false = refl

-- The two tables

pub few-w26 : (s : List ℕ) → s ≡ spelled w26.table → Few 26 w26.table s
unfolding seven_at_most w26.table
few-w26 s e = record { tabled = record { spells = e; rooms = roomy-w26.0 }; legible = legible-w26; seven = refl }

legible-rows36 : Legible w36.rows36
unfolding kind_of w36.table w36.binary_table w36.rows36
legible-rows36 = refl

pub few-w36 : (s : List ℕ) → s ≡ spelled w36.rows36 → Few 13 w36.rows36 s
unfolding seven_at_most w36.table w36.binary_table w36.rows36
few-w36 s e = record { tabled = record { spells = e; rooms = roomy-w36.1 }; legible = legible-rows36; seven = refl }
