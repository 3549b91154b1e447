-- The values of a binary event came from its fields, and the last of them from its data: a walk over them gives one after the other.
use Prim.Native.Nat.{ℕ, suc, ◌+◌, ◌-◌, ◌≤◌}
use mathlib.Core.Path.{◌≡◌, refl}
use mathlib.Core.List.{List, [], ◌∷◌, ◌++◌}
use native.Mathlib.Omega.{arith}
use lib.ListN.{length, take, drop, length-append}
use Rattle.at.specs.Refusal.{good}
use Rattle.at.specs.Event.{Kind, Row, kinds_of, Value, place, event, ReadEvent, event_to}
use Rattle.at.specs.Binary.{tried, try_rows}
use Rattle.at.specs.W36.{binary_table}
use Rattle.checks.specs.Slot.{span_of, slot, fixed, name_slot, marked_slots, marked_tail, slots_of}
use Rattle.checks.specs.Part.{binary_shape, parts_by}
use Rattle.checks.specs.Came.{Came, read_kinds, read_values}
use Rattle.checks.specs.declared.part.PartName.TheVariants.{Marker, DataLength, Data, Field}
use Rattle.checks.specs.declared.slot.Span.TheVariants.{Exactly, AllBut, UpTo}
use Rattle.checks.proofs.BinaryWalk.{MarkedWalk, BinaryAt, BinaryWalk, binary-walk}
use Rattle.checks.proofs.CameLaws.{how_field, next-kinds, Comes, no_slot, slot-came, fixed-came, rest-came, part_length}

-- The fields before the marker, for a row of the kinds `all`; m bytes follow the data, and what comes from the marker's place on is known
module _ (s : List ℕ) (all : List Kind) (m end : ℕ) (ds : List Value) (tail : Comes all s (marked_tail m) end ds) where
  marked-came : (j : ℕ) (ks : List Kind) (c x : ℕ) (vs : List Value) → drop j all ≡ ks → MarkedWalk s m end j ks c x vs
      → Comes all s (marked_slots (suc j) (length vs) m ++ marked_tail m) c (vs ++ ds)
  unfolding marked_slots span_of
  marked-came j ks c x [] ek w = absurd w
  marked-came j [] c x (v ∷ vs) ek w = absurd w
  marked-came j (k ∷ ks) c x (v ∷ []) ek w =
      let f = w.1 in
      let l : length (take 1 (drop c s)) ≡ 1 = rw f.mark in
      slot-came all s (slot (Exactly 1) (Field (suc j)) (UpTo 1 m)) (marked_tail m) c 1 w.0 (v ∷ ds) l f.span
      (rw (how_field all j k ks ek, w.2) (f.read, tail))
  marked-came j (k ∷ ks) c x (v ∷ y ∷ vs) ek w =
      let f = w.1 in
      let more = marked-came (suc j) ks (c + 1 + w.0) 44 (y ∷ vs) (next-kinds all j k ks ek) w.2 in
      let l : length (take 1 (drop c s)) ≡ 1 = rw f.mark in
      slot-came all s (slot (Exactly 1) (Field (suc j)) (UpTo 44 m)) (marked_slots (suc (suc j)) (suc (length vs)) m ++ marked_tail m) c 1 w.0
      (v ∷ y ∷ vs ++ ds) l f.span (rw (how_field all j k ks ek) (f.read, more))

-- the marker at the place c, two length bytes and n data bytes
data-came : (s : List ℕ) (ks : List Kind) (c n : ℕ) → c + 1 + 2 + n ≤ length s
    → Comes ks s (marked_tail (length s - (c + 1 + 2 + n))) c (place (c + 1 + 2) n ∷ [])
data-came s ks c n h =
    let m = length s - (c + 1 + 2 + n) in
    let l : length s - (c + 1 + 2) - m ≡ n = omega arith in
    fixed-came ks s Marker 1 (fixed DataLength 2 ∷ slot (Exactly 0) Data (AllBut m) ∷ []) c (place (c + 1 + 2) n ∷ []) (omega arith)
    (fixed-came ks s DataLength 2 (slot (Exactly 0) Data (AllBut m) ∷ []) (c + 1) (place (c + 1 + 2) n ∷ []) (omega arith)
    (rest-came ks s Data m [] (c + 1 + 2) (place (c + 1 + 2) n ∷ []) (rw (l, part_length s (c + 1 + 2) n h) (refl, no_slot ks s (c + 1 + 2 + n)))))

abbrev BinaryCame : List ℕ → ℕ → ReadEvent → Type 0
BinaryCame s p e = Came (read_kinds e) s (parts_by (binary_shape (length s) e) s p) (read_values e)

-- the name gives nothing
walk-came : (s : List ℕ) (p : ℕ) (r : Row) (all : List Value) (past : ℕ) → BinaryAt s p r all past → BinaryCame s p (event_to (event r all) past)
unfolding parts_by slots_of span_of
walk-came s p r all past w =
    let m = length s - past in
    let ds = place (w.marked + 1 + 2) w.size ∷ [] in
    let l : length (w.vs ++ ds) - 1 ≡ length w.vs = omega (arith, length-append w.vs ds) in
    let two : length (take 2 (drop p s)) ≡ 2 = rw w.begins in
    let tail : Comes (kinds_of r) s (marked_tail m) w.marked ds =
    rw w.ends (data-came s (kinds_of r) w.marked w.size (rw w.ends at w.room)) in
    rw (w.answer, l)
    (slot-came (kinds_of r) s (name_slot m) (marked_slots 1 (length w.vs) m ++ marked_tail m) p 2 w.named (w.vs ++ ds) two w.span
    (marked-came s (kinds_of r) m w.marked ds tail 0 (kinds_of r) (p + 2 + w.named) 58 w.vs refl w.fields))

pub binary-came : (s : List ℕ) (p : ℕ) (e : ReadEvent) → try_rows binary_table p (drop p s) ≡ tried (good e) → BinaryCame s p e
binary-came s p e f = go e (binary-walk s p e f)
  where
    go : (e : ReadEvent) → BinaryWalk s p e → BinaryCame s p e
    go (event_to (event r all) past) w = walk-came s p r all past w
