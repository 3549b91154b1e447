-- What a read hands out is given back: the row of an event that was read is that event again. Assumes nothing.
use Prim.Native.Nat.{ℕ, ◌+◌, ◌≤◌}
use mathlib.Core.Path.{◌≡◌, refl, sym, ap, ◌∙◌}
use mathlib.Core.List.{List, [], ◌∷◌, ◌++◌, append_assoc}
use mathlib.Core.Logic.{⊎_elim}
use mathlib.Core.Bool.{true}
use native.Mathlib.Numerals.{add-one}
use native.Mathlib.Omega.{arith}
use borrow.Author.Tests.{lt-ltb, le-ltb, eq-eqb}
use lib.ListN.{length, drop, get_or, length-append, length-drop}
use lib.Seq.{drop-drop, get_or-drop}
use Rattle.at.specs.Refusal.{good}
use Rattle.at.specs.Event.{Kind, bits, text, ip_type, bt_type, protocol, reason, Row, kinds_of, Value, num, place, Event, event, event_to}
use Rattle.at.specs.Line.{read_line}
use Rattle.at.specs.Walk.{one, step_at}
use Rattle.at.specs.Typed.{holds, OfKind, OfKinds, OfKindsThenData, TextOf, BinaryOf}
use Rattle.at.proofs.TypedLaws.{trims_26, line_typed, step_typed}
use Rattle.at.specs.Parts.{row_no, number_in}
use Rattle.at.specs.W26 as w26
use Rattle.at.specs.W36 as w36
use Rattle.at.proofs.PartsLaws.{firsts, row_number}
use Rattle.at.proofs.TableTests.{firsts_w26, firsts_w36}
use Rattle.abi.specs.Row.{values_numbers, read_numbers, encode, encode_step, over}
use Rattle.abi.specs.Given.{number, width, values_at, all_hold, value_kinds, event_in, event_in26, event_in36}
use Rattle.abi.proofs.GivenLaws.{one_number}
use Rattle.abi.proofs.Injective.{front_row, back_row}

-- a value of a kind: a number that the kind can have, or the place of a text
pub data KindHolds : Kind → Value → Type 0 where
  a_number : {kind : Kind} {n : ℕ} → width kind ≡ 1 → holds kind n ≡ true → KindHolds kind (num n)
  a_place : {p n : ℕ} → KindHolds text (place p n)

pub data EachHolds : List Kind → List Value → Type 0 where
  none : EachHolds [] []
  next : {kind : Kind} {v : Value} {kinds : List Kind} {vs : List Value} → KindHolds kind v → EachHolds kinds vs → EachHolds (kind ∷ kinds) (v ∷ vs)

module _ (row : List ℕ) (k : ℕ) {n : ℕ} {ns : List ℕ} (e : drop k row ≡ n ∷ ns) where
  here : get_or row k 0 ≡ n
  here = let z : k + 0 ≡ k = omega arith in rw z at (sym (get_or-drop k row 0 0)) ∙ ap (λ (l : List ℕ). get_or l 0 0) e

  after : drop (k + 1) row ≡ ns
  after = sym (drop-drop 1 k row) ∙ ap (drop 1) e

-- the numbers of the values, from a place on, are the values again
values_back : {kinds : List Kind} {vs : List Value} → EachHolds kinds vs → (row back : List ℕ) (k : ℕ) → drop k row ≡ values_numbers vs ++ back
    → (values_at kinds row k ≡ vs) × (all_hold kinds row k ≡ true)
unfolding values_at all_hold values_numbers
values_back none row back k e = (refl, refl)
values_back (next (a_number {kind} {n} w h) m) row back k e =
    let first = here row k e in
    let rest = values_back m row back (k + width kind) (rw w (after row k e)) in
    let one : width kind ≡ 2 → ⊥ = λ t. omega arith in
    (rw (one_number kind row k one, first, rest.0), rw (first, h, rest.1))
values_back (next (a_place {p} {n}) m) row back k e =
    let second = after row k e in
    let z : k + 1 + 1 ≡ k + 2 = omega arith in
    let rest = values_back m row back (k + 2) (rw z at (after row (k + 1) second)) in
    (rw (here row k e, ← add-one k, here row (k + 1) second, rest.0), rest.1)

-- a row is as long as before, or longer
over_long : (row answer : List ℕ) → length row ≤ length (over row answer)
over_long row answer = simp (length-append, length-drop) (omega arith)

in_row : (texts : ℕ) (rows : List Row) (row : List ℕ) (r : Row) (vs : List Value) → 17 ≤ length row → number row 0 ≡ 0 → row_no rows (number row 1) ≡ good r
    → (values_at (value_kinds texts (number row 1) r) row 2 ≡ vs) × (all_hold (value_kinds texts (number row 1) r) row 2 ≡ true) → event_in texts rows row ≡ good (event r vs)
unfolding event_in
in_row texts rows row r vs long begins e back = rw (le-ltb (length row) 17 long, eq-eqb (number row 0) 0 begins, e, back.1, back.0)

given_back : (texts : ℕ) (rows : List Row) → firsts rows 0 rows ≡ true → (i : ℕ) (r : Row) (vs : List Value) → row_no rows i ≡ good r → EachHolds (value_kinds texts i r) vs
    → (row : List ℕ) (past : ℕ) → 17 ≤ length row → event_in texts rows (over row (encode (read_numbers rows) (good (event_to (event r vs) past)))) ≡ good (event r vs)
given_back texts rows t i r vs e m row past h =
    let answer = encode (read_numbers rows) (good (event_to (event r vs) past)) in
    let tail = drop (length answer) row in
    let case = row_number rows t i r e in
    let kinds : EachHolds (value_kinds texts (number_in rows r) r) vs = rw case m in
    let back = values_back kinds (over row answer) (past ∷ tail) 2 (append_assoc (values_numbers vs) (past ∷ []) tail) in
    in_row texts rows (over row answer) r vs (omega (arith, h, over_long row answer)) refl (rw case e) back

-- what a reader gives is of its row's kinds

module _ (s : List ℕ) where
  kind-holds : (k : Kind) (v : Value) → OfKind s k v → KindHolds k v
  kind-holds (bits w) (num n) h = a_number refl h
  kind-holds (bits w) (place p n) h = absurd h
  kind-holds text (num n) h = absurd h
  kind-holds text (place p n) h = a_place
  kind-holds ip_type (num n) h = a_number refl h
  kind-holds ip_type (place p n) h = absurd h
  kind-holds bt_type (num n) h = a_number refl h
  kind-holds bt_type (place p n) h = absurd h
  kind-holds protocol (num n) h = a_number refl h
  kind-holds protocol (place p n) h = absurd h
  kind-holds reason (num n) h = a_number refl h
  kind-holds reason (place p n) h = absurd h

  kinds_hold : (ks : List Kind) (vs : List Value) → OfKinds s ks vs → EachHolds ks vs
  kinds_hold [] [] h = none
  kinds_hold [] (v ∷ vs) h = absurd h
  kinds_hold (k ∷ ks) [] h = absurd h
  kinds_hold (k ∷ ks) (v ∷ vs) h = next (kind-holds k v h.0) (kinds_hold ks vs h.1)

  data_hold : (ks : List Kind) (vs : List Value) → OfKindsThenData s ks vs → EachHolds (ks ++ text ∷ []) vs
  data_hold [] [] h = absurd h
  data_hold [] (num n ∷ vs) h = absurd h
  data_hold [] (place p n ∷ []) h = next a_place none
  data_hold [] (place p n ∷ v ∷ vs) h = absurd h
  data_hold (k ∷ ks) [] h = absurd h
  data_hold (k ∷ ks) (v ∷ vs) h = next (kind-holds k v h.0) (data_hold ks vs h.1)

-- so the row of an event that was read, given to the writer, is that event
module _ (s row : List ℕ) (long : 17 ≤ length row) where
  event_26 : (e : Event) (past : ℕ) → TextOf w26.table s e → event_in26 (over row (0 ∷ read_numbers w26.table (event_to e past))) ≡ good e
  event_26 (event r vs) past ((i, l), h) =
      let f = front_row w26.table [] i r l in
      given_back (length w26.table) w26.table firsts_w26 i r vs l (rw (lt-ltb i (length w26.table) f.1) (kinds_hold s (kinds_of r) vs h)) row past long

  event_36 : (e : Event) (past : ℕ) → TextOf w36.table s e → event_in36 (over row (0 ∷ read_numbers w36.rows36 (event_to e past))) ≡ good e
  unfolding w36.rows36
  event_36 (event r vs) past ((i, l), h) =
      let f = front_row w36.table w36.binary_table i r l in
      given_back (length w36.table) (w36.table ++ w36.binary_table) (unfold w36.rows36 in firsts_w36) i r vs f.0 (rw (lt-ltb i (length w36.table) f.1) (kinds_hold s (kinds_of r) vs h)) row past long

  event-binary : (e : Event) (past : ℕ) → BinaryOf w36.binary_table s e → event_in36 (over row (0 ∷ read_numbers w36.rows36 (event_to e past))) ≡ good e
  unfolding w36.rows36
  event-binary (event r vs) past ((i, l), h) =
      let n = length w36.table in
      given_back n (w36.table ++ w36.binary_table) (unfold w36.rows36 in firsts_w36) (n + i) r vs (back_row w36.table w36.binary_table i r l) (rw (le-ltb (n + i) n (omega arith)) (data_hold s (kinds_of r) vs h)) row past long

  pub w26-given_back : (e : Event) (past : ℕ) → read_line w26.w26 0 s ≡ good (event_to e past) → event_in26 (over row (encode (read_numbers w26.table) (read_line w26.w26 0 s))) ≡ good e
  w26-given_back e past q = rw q (event_26 e past (rw q at (line_typed s 0 w26.w26 trims_26)))

  -- any step of the walk: an event in text, or a binary one
  pub step-given_back : (p : ℕ) (e : Event) (past : ℕ) → step_at s p ≡ one e past → event_in36 (over row (encode_step (step_at s p))) ≡ good e
  step-given_back p e past q = rw q (⊎_elim (event_36 e past) (event-binary e past) (rw q at (step_typed s p)))
