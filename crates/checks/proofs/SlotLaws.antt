-- Laws of slots: how many bytes a span takes, a slot by its number, how many slots there are, and one step of a walk.
use Prim.Native.Nat.{ℕ, zero, suc, ◌+◌, ◌-◌, ◌≤◌, ◌<◌}
use mathlib.Core.Path.{◌≡◌, refl, sym, ap, ◌∙◌}
use mathlib.Core.List.{List, [], ◌∷◌, ◌++◌}
use mathlib.Core.Bool.{Bool, true, false}
use native.Mathlib.Omega.{arith}
use native.Mathlib.Numerals.{add-one}
use native.Mathlib.Nat.{add_assoc, le_of_suc-le-suc, not-suc-le-zero}
use lib.Dec.{leb}
use lib.ListN.{length, take, drop, length-append, length-take}
use lib.Seq.{drop-drop, length-take-le}
use borrow.Author.Tests.{leb-true, leb-false}
use Rattle.text.specs.Bytes.{part}
use Rattle.text.specs.Find.{first_of, first_from}
use Rattle.std.specs.Prelude.{◌≢◌, Option, Some, None, slice_get, OnSome}
use Rattle.std.specs.Option.{unwrap_or}
use Rattle.std.proofs.lemmas.Option.{slice_get_past, slice_get_within, none-some}
use Rattle.text.proofs.BytesLaws.{part-rest}
use Rattle.checks.proofs.StartLaws.{part_room}
use Rattle.text.proofs.FindLaws.{first_le, from_at, from_nothing}
use Rattle.at.specs.Event.{Row, Value, Event, event, event_to}
use Rattle.at.specs.Parts.{values_of, parts_of, Apart}
use Rattle.at.proofs.PartsLaws.{taken}
use Rattle.at.specs.declared.parts.Parts.{Parts}
use Rattle.checks.specs.Slot.{span_of, slot, fixed, field_slots, marked_slots, marked_tail, name_slot, shape_slots, end_slot, slots_of}
use Rattle.checks.specs.Part.{◌from◌for◌, cut, placed, left, event_shape, binary_shape}
use Rattle.checks.specs.declared.part.PartName.TheVariants.{StartByte, Length, Identifier, Field}
use Rattle.checks.specs.declared.part.PartWalk.{PartWalk}
use Rattle.checks.specs.declared.part.Shape.{Shape}
use Rattle.checks.specs.declared.part.Shape.TheVariants as shape
use Rattle.checks.specs.declared.slot.Slot.{Slot}
use Rattle.checks.specs.declared.slot.Span.{Span}
use Rattle.checks.specs.declared.slot.Span.TheVariants.{Exactly, AllBut, UpTo}

-- a span
module _ (t : List ℕ) (n : ℕ) where
  pub span_exactly : (u : List ℕ) → u ≡ part t 0 n → length u ≡ span_of (Exactly n) t
  unfolding part span_of
  span_exactly u e = rw e

  pub span_all_but : (r : ℕ) → r ≡ length t - n → r ≡ span_of (AllBut n) t
  unfolding span_of
  span_all_but r e = e

  module _ (u : List ℕ) (r b : ℕ) (l : r ≡ length t - n) (e : u ≡ part t 0 r) where
    whole : u ≡ take (length t - n) t
    unfolding part
    whole = e ∙ rw l

    pub span_up : (o : Option ℕ) → o ≡ first_from (b ∷ []) u 0 → unwrap_or o (length u) ≡ span_of (UpTo b n) t
    unfolding span_of
    span_up (Some i) f =
        let g = from_at (b ∷ []) u 0 i (sym f) in
        let h : i ≡ first_of (b ∷ []) u = omega (arith, g.0) in
        h ∙ ap (first_of (b ∷ [])) whole
    span_up None f =
        let g = from_nothing (b ∷ []) u 0 (omega arith) (sym f) in
        let h : length u ≡ first_of (b ∷ []) u = omega (arith, g) in
        h ∙ ap (first_of (b ∷ [])) whole

pub ruleset spans = (span_exactly, span_all_but, span_up)

pub span_le : (k : Span) (t : List ℕ) → span_of k t ≤ length t
unfolding span_of
span_le (Exactly n) t = simp length-take (omega arith)
span_le (AllBut n) t = omega arith
span_le (UpTo b n) t = omega (arith, first_le (b ∷ []) (take (length t - n) t), length-take (length t - n) t)

module _ {A : Type 0} where
  -- an element of two lists, one after the other
  get-left : (xs ys : List A) (i : ℕ) → i < length xs → slice_get (xs ++ ys) i ≡ slice_get xs i
  get-left [] ys i h = absurd (not-suc-le-zero h)
  get-left (x ∷ xs) ys zero h = refl
  get-left (x ∷ xs) ys (suc i) h = get-left xs ys i (le_of_suc-le-suc h)

  get-right : (xs ys : List A) (i : ℕ) → slice_get (xs ++ ys) (length xs + i) ≡ slice_get ys i
  get-right [] ys i = let e : 0 + i ≡ i = omega arith in rw e
  get-right (x ∷ xs) ys i = let e : length (x ∷ xs) + i ≡ suc (length xs + i) = omega arith in rw e (get-right xs ys i)

  -- what is left from an element on
  pub from_some : (xs : List A) (i : ℕ) (x : A) → slice_get xs i ≡ Some x → drop i xs ≡ x ∷ drop (suc i) xs
  from_some [] i x e = absurd (none-some _ e)
  from_some (y ∷ xs) zero x e = let p : y ≡ x = cc in rw p
  from_some (y ∷ xs) (suc i) x e = from_some xs i x e

  pub from-none : (xs : List A) (i : ℕ) → slice_get xs i ≡ None → drop i xs ≡ []
  from-none [] zero e = refl
  from-none [] (suc i) e = refl
  from-none (x ∷ xs) zero e = absurd (none-some _ (sym e))
  from-none (x ∷ xs) (suc i) e = from-none xs i e

-- an element that is there has a number below any bound of the length
pub few : {A : Type 0} (n : ℕ) (xs : List A) (i : ℕ) (r : Option A) → r ≡ slice_get xs i → length xs ≤ n → OnSome r (i < n)
few n xs i None e h = tt
few n xs i (Some x) e h = let w = slice_get_within xs i x (sym e) in omega (arith, w, h)

-- how many there are
pub field_slots_length : (i k m : ℕ) → length (field_slots i k m) ≡ k
unfolding field_slots
field_slots_length i zero m = refl
field_slots_length i (suc k) m = ap suc (field_slots_length (suc i) k m)

pub marked_slots_length : (i k m : ℕ) → length (marked_slots i k m) ≡ k
unfolding marked_slots
marked_slots_length i zero m = refl
marked_slots_length i (suc zero) m = refl
marked_slots_length i (suc (suc k)) m = ap suc (marked_slots_length (suc i) (suc k) m)

pub binary_slots_length : (k m : ℕ) → length (marked_slots 1 k m ++ marked_tail m) ≡ k + 3
binary_slots_length k m = omega (arith, length-append (marked_slots 1 k m) (marked_tail m), marked_slots_length 1 k m)

-- the field with a number
field-no : (j i k m : ℕ) → j < k → slice_get (field_slots i k m) j ≡ Some (slot (Exactly 1) (Field (i + j)) (UpTo 44 m))
unfolding field_slots
field-no j i zero m h = absurd (not-suc-le-zero h)
field-no zero i (suc k) m h = let e : i + 0 ≡ i = omega arith in rw e
field-no (suc j) i (suc k) m h = let e : suc i + j ≡ i + suc j = omega arith in rw e at (field-no j (suc i) k m (le_of_suc-le-suc h))

marked-no : (j i k m : ℕ) → suc j < k → slice_get (marked_slots i k m) j ≡ Some (slot (Exactly 1) (Field (i + j)) (UpTo 44 m))
unfolding marked_slots
marked-no j i zero m h = absurd (not-suc-le-zero h)
marked-no j i (suc zero) m h = absurd (not-suc-le-zero (le_of_suc-le-suc h))
marked-no zero i (suc (suc k)) m h = let e : i + 0 ≡ i = omega arith in rw e
marked-no (suc j) i (suc (suc k)) m h = let e : suc i + j ≡ i + suc j = omega arith in rw e at (marked-no j (suc i) (suc k) m (le_of_suc-le-suc h))

marked_last : (i k m : ℕ) → slice_get (marked_slots i (suc k) m) k ≡ Some (slot (Exactly 1) (Field (i + k)) (UpTo 1 m))
unfolding marked_slots
marked_last i zero m = let e : i + 0 ≡ i = omega arith in rw e
marked_last i (suc k) m = let e : suc i + k ≡ i + suc k = omega arith in rw e at (marked_last (suc i) k m)

-- the slots of an event by their numbers
pub event-field : (i k m : ℕ) → 0 < i → i ≤ k → Some (slot (Exactly 1) (Field i) (UpTo 44 m)) ≡ slice_get (name_slot m ∷ field_slots 1 k m) i
event-field zero k m p h = absurd (not-suc-le-zero p)
event-field (suc i) k m p h = let e : 1 + i ≡ suc i = omega arith in sym (rw e at (field-no i 1 k m h))

pub event_past : (i k m : ℕ) → k < i → None ≡ slice_get (name_slot m ∷ field_slots 1 k m) i
event_past i k m h = sym (slice_get_past (name_slot m ∷ field_slots 1 k m) i (omega (arith, field_slots_length 1 k m)))

module _ (i k m : ℕ) where
  in_fields : suc i ≤ k → slice_get (marked_slots 1 k m ++ marked_tail m) i ≡ slice_get (marked_slots 1 k m) i
  in_fields h = get-left (marked_slots 1 k m) (marked_tail m) i (omega (arith, marked_slots_length 1 k m))

pub binary-field : (i k m : ℕ) → 0 < i → i < k
    → Some (slot (Exactly 1) (Field i) (UpTo 44 m)) ≡ slice_get (name_slot m ∷ marked_slots 1 k m ++ marked_tail m) i
binary-field zero k m p h = absurd (not-suc-le-zero p)
binary-field (suc i) k m p h =
    let e : 1 + i ≡ suc i = omega arith in
    sym (in_fields i k m (omega arith) ∙ (rw e at (marked-no i 1 k m h)))

pub binary_last : (i k m : ℕ) → 0 < i → i ≡ k
    → Some (slot (Exactly 1) (Field i) (UpTo 1 m)) ≡ slice_get (name_slot m ∷ marked_slots 1 k m ++ marked_tail m) i
binary_last zero k m p h = absurd (not-suc-le-zero p)
binary_last (suc i) k m p h =
    let e : 1 + i ≡ suc i = omega arith in
    rw (← h) (sym (in_fields i (suc i) m (omega arith) ∙ (rw e at (marked_last 1 i m))))

pub binary_tail : (i k m : ℕ) → k < i → slice_get (marked_tail m) (i - k - 1) ≡ slice_get (name_slot m ∷ marked_slots 1 k m ++ marked_tail m) i
binary_tail i k m h =
    let e : i ≡ suc (k + (i - k - 1)) = omega arith in
    let f = get-right (marked_slots 1 k m) (marked_tail m) (i - k - 1) in
    sym (ap (λ (n : ℕ). slice_get (name_slot m ∷ marked_slots 1 k m ++ marked_tail m) n) e ∙ (rw (marked_slots_length 1 k m) at f))

pub ruleset counted = (field_slots_length, binary_slots_length)

pub ruleset numbered = (event-field, event_past, binary-field, binary_last, binary_tail)

-- those of a frame, after the three before its payload
module _ (s : Shape) (i j : ℕ) (h : i ≡ suc (suc (suc j))) where
  payload-slot : slice_get (slots_of true s) i ≡ slice_get (shape_slots s ++ end_slot ∷ []) j
  unfolding slots_of
  payload-slot = rw h

  pub framed-slot : (k : ℕ) → k ≡ length (shape_slots s) → j ≢ k → slice_get (shape_slots s) j ≡ slice_get (slots_of true s) i
  framed-slot k m n = sym (payload-slot ∙ go (leb (length (shape_slots s)) j) refl)
    where
      go : (b : Bool) → leb (length (shape_slots s)) j ≡ b → slice_get (shape_slots s ++ end_slot ∷ []) j ≡ slice_get (shape_slots s) j
      go false e = get-left (shape_slots s) (end_slot ∷ []) j (omega (arith, leb-false (length (shape_slots s)) j e))
      go true e =
          let l : length (shape_slots s) ≤ j = leb-true (length (shape_slots s)) j e in
          let m : length (shape_slots s ++ end_slot ∷ []) ≤ j = omega (arith, l, m, n, length-append (shape_slots s) (end_slot ∷ [])) in
          slice_get_past (shape_slots s ++ end_slot ∷ []) j m ∙ sym (slice_get_past (shape_slots s) j l)

  pub framed-end : j ≡ length (shape_slots s) → Some end_slot ≡ slice_get (slots_of true s) i
  framed-end n =
      let e : j ≡ length (shape_slots s) + 0 = omega (arith, n) in
      sym (payload-slot ∙ rw e (get-right (shape_slots s) (end_slot ∷ []) 0))

pub framed-head : (s : Shape) (i : ℕ) → i < 3 → slice_get (fixed StartByte 1 ∷ fixed Length 2 ∷ fixed Identifier 2 ∷ []) i ≡ slice_get (slots_of true s) i
unfolding slots_of
framed-head s zero h = refl
framed-head s (suc zero) h = refl
framed-head s (suc (suc zero)) h = refl
framed-head s (suc (suc (suc i))) h = absurd (omega (arith, h))

pub framed-count : (s : Shape) → length (slots_of true s) ≡ length (shape_slots s) + 4
unfolding slots_of
framed-count s = omega (arith, length-append (shape_slots s) (end_slot ∷ []))

pub ruleset framed = (few, framed-count, framed-slot, framed-end, framed-head)

-- a step of a walk
module _ (s : List ℕ) (w : PartWalk) where
  pub walk_end : None ≡ slice_get (slots_of w.framed w.shape) w.turn → [] ≡ left s w
  unfolding left placed cut
  walk_end h = rw (from-none (slots_of w.framed w.shape) w.turn (sym h))

  module _ (k : Slot) (t u : List ℕ) (over len : ℕ) (ek : Some k ≡ slice_get (slots_of w.framed w.shape) w.turn) (et : t ≡ part s w.at (length s))
      (eo : over ≡ span_of k.pass t) (lo : over ≤ length t) (eu : u ≡ part t over (length t))
      (el : len ≡ span_of k.len u) (ll : len ≤ length u) where
    here : t ≡ drop w.at s
    here = et ∙ part-rest s w.at

    on : u ≡ drop over t
    on = eu ∙ part-rest t over

    rest : drop (w.at + over + len) s ≡ drop len u
    rest = sym (rw (on, here) (drop-drop len over (drop w.at s) ∙ drop-drop (over + len) w.at s ∙ rw add_assoc))

    pub walk-part :
        (k.name from w.at + over for len)
        ∷ left s (record { framed = w.framed; shape = w.shape; turn = w.turn + 1; at = w.at + over + len }) ≡ left s w
    unfolding left placed cut
    walk-part =
        let slots = slots_of w.framed w.shape in
        let nk : drop w.turn slots ≡ k ∷ drop (w.turn + 1) slots = rw add-one (from_some slots w.turn k (sym ek)) in
        rw (nk, ← here, ← eo, ← on, ← el, length-take-le over t lo, length-take-le len u ll, rest)

-- at most seven values
seven : (i : ℕ) (vs : List Value) → length (values_of (parts_of i vs)) ≤ 7
seven i vs = simp length-take (omega arith)

pub at-most-seven : (rows : List Row) (e : Event) (p : Parts) → Apart rows e p → length (values_of p) ≤ 7
at-most-seven rows e p a = rw (ap (λ (q : Parts). length (values_of q)) a.tidy) (seven p.row (values_of p))

-- the shape of an event from its parts: as many fields as it has values
module _ (rows : List Row) (e : Event) (p : Parts) (n : ℕ) (a : Apart rows e p) (l : n ≡ length (values_of p)) where
  values_of_lem : (r : Row) × (e ≡ event r (values_of p))
  values_of_lem = let q = taken rows e p a in (q.0, let f = q.2 in (cc))

  pub event-shape : (m : ℕ) → shape.Event n m ≡ event_shape m e
  event-shape m = let q = values_of_lem in rw (q.1, l)

  pub binary-shape : (k past : ℕ) → shape.Binary (n - 1) (k - past) ≡ binary_shape k (event_to e past)
  binary-shape k past = let q = values_of_lem in rw (q.1, l)

-- a step of a walk is found by these
pub ruleset walked = (part_room, span_le, walk_end, walk-part)

pub ruleset shapes = (at-most-seven, event-shape, binary-shape)
