-- What the fields of an accepted binary event leave over: CR LF, the colon, the commas between its fields, and what follows the event.
use Prim.Native.Nat.{ℕ, suc, ◌+◌, ◌-◌, ◌≤◌}
use mathlib.Core.Path.{◌≡◌, ◌∙◌}
use mathlib.Core.List.{List, [], ◌∷◌, ◌++◌}
use mathlib.Core.Bool.{false}
use native.Mathlib.Omega.{arith}
use lib.ListN.{length, take, drop, length-append}
use Rattle.text.specs.Find.{crlf}
use Rattle.at.specs.Refusal.{good}
use Rattle.at.specs.Event.{Kind, Row, kinds_of, Value, place, event, ReadEvent, event_to}
use Rattle.at.specs.Binary.{tried, try_rows}
use Rattle.at.specs.W36.{binary_table}
use Rattle.checks.specs.Slot.{span_of, slot, fixed, name_slot, marked_slots, marked_tail, slots_of}
use Rattle.checks.specs.Part.{cut, passed_over, marks_before, binary_shape}
use Rattle.checks.specs.Came.{read_values}
use Rattle.checks.specs.declared.part.PartName.TheVariants.{Marker, DataLength, Data, Field}
use Rattle.checks.specs.declared.slot.Slot.{Slot}
use Rattle.checks.specs.declared.slot.Span.TheVariants.{Exactly, AllBut, UpTo}
use Rattle.checks.proofs.BinaryWalk.{MarkedWalk, BinaryAt, BinaryWalk, binary-walk}
use Rattle.checks.proofs.CoverLaws.{Passed, slot-passed, fixed-passed, rest-passed}

-- the fields before the marker, which stands at the place `end`, and any slots from there on
marked-passed : (s : List ℕ) (m end : ℕ) (tail : List Slot) (j : ℕ) (ks : List Kind) (c x : ℕ) (vs : List Value) → MarkedWalk s m end j ks c x vs
    → Passed s (marked_slots (suc j) (length vs) m ++ tail) c ≡ marks_before x (length vs) ++ Passed s tail end
unfolding marked_slots span_of marks_before
marked-passed s m end tail j ks c x [] w = absurd w
marked-passed s m end tail j [] c x (v ∷ vs) w = absurd w
marked-passed s m end tail j (k ∷ ks) c x (v ∷ []) w =
    let f = w.1 in
    let l : length (take 1 (drop c s)) ≡ 1 = rw f.mark in
    slot-passed s (slot (Exactly 1) (Field (suc j)) (UpTo 1 m)) tail c 1 w.0 l f.span ∙ rw (f.mark, w.2)
marked-passed s m end tail j (k ∷ ks) c x (v ∷ y ∷ vs) w =
    let f = w.1 in
    let more = marked-passed s m end tail (suc j) ks (c + 1 + w.0) 44 (y ∷ vs) w.2 in
    let l : length (take 1 (drop c s)) ≡ 1 = rw f.mark in
    slot-passed s (slot (Exactly 1) (Field (suc j)) (UpTo 44 m)) (marked_slots (suc (suc j)) (suc (length vs)) m ++ tail) c 1 w.0 l f.span
    ∙ rw (f.mark, more)

-- the marker at the place c, two length bytes and n data bytes
data-passed : (s : List ℕ) (c n : ℕ) → c + 1 + 2 + n ≤ length s
    → Passed s (marked_tail (length s - (c + 1 + 2 + n))) c ≡ [] ∷ [] ∷ [] ∷ drop (c + 1 + 2 + n) s ∷ []
unfolding cut passed_over
data-passed s c n h =
    let m = length s - (c + 1 + 2 + n) in
    let l : length s - (c + 1 + 2) - m ≡ n = omega arith in
    let last = slot (Exactly 0) Data (AllBut m) ∷ [] in
    rw (
      fixed-passed s Marker 1 (fixed DataLength 2 ∷ last) c (omega arith),
      fixed-passed s DataLength 2 last (c + 1) (omega arith),
      rest-passed s Data m [] (c + 1 + 2),
      l,
    )

-- CR LF before the name; a colon before the first field and a comma before each other one; nothing before the marker, the length bytes and the data;
-- and what follows the event
abbrev pub BinaryPassed : List ℕ → ℕ → ReadEvent → Type 0
BinaryPassed s p (event_to e past) =
    Passed s (slots_of false (binary_shape (length s) (event_to e past))) p
    ≡ crlf ∷ marks_before 58 (length (read_values (event_to e past)) - 1) ++ [] ∷ [] ∷ [] ∷ drop past s ∷ []

walk-passed : (s : List ℕ) (p : ℕ) (r : Row) (all : List Value) (past : ℕ) → BinaryAt s p r all past → BinaryPassed s p (event_to (event r all) past)
unfolding slots_of span_of
walk-passed s p r all past w =
    let m = length s - past in
    let ds = place (w.marked + 1 + 2) w.size ∷ [] in
    let n = length w.vs in
    let l : length (w.vs ++ ds) - 1 ≡ n = omega (arith, length-append w.vs ds) in
    let two : length (take 2 (drop p s)) ≡ 2 = rw w.begins in
    let tail : Passed s (marked_tail m) w.marked ≡ [] ∷ [] ∷ [] ∷ drop past s ∷ [] =
    rw w.ends (data-passed s w.marked w.size (rw w.ends at w.room)) in
    let fields = marked-passed s m w.marked (marked_tail m) 0 (kinds_of r) (p + 2 + w.named) 58 w.vs w.fields in
    rw (w.answer, l)
    (slot-passed s (name_slot m) (marked_slots 1 n m ++ marked_tail m) p 2 w.named two w.span ∙ rw (w.begins, fields, tail))

pub binary-passed : (s : List ℕ) (p : ℕ) (e : ReadEvent) → try_rows binary_table p (drop p s) ≡ tried (good e) → BinaryPassed s p e
binary-passed s p e f = go e (binary-walk s p e f)
  where
    go : (e : ReadEvent) → BinaryWalk s p e → BinaryPassed s p e
    go (event_to (event r all) past) w = walk-passed s p r all past w
