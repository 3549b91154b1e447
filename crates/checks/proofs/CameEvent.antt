-- The values of an event line came from its fields: a walk over them gives one after the other.
use Prim.Native.Nat.{ℕ, suc, ◌+◌}
use mathlib.Core.Path.{◌≡◌, refl}
use mathlib.Core.List.{List, [], ◌∷◌, ◌++◌}
use native.Mathlib.Omega.{arith}
use lib.ListN.{length, take, drop, length-drop}
use lib.Seq.{length-take-le}
use Rattle.at.specs.Event.{Kind, Row, kinds_of, Value, event}
use Rattle.checks.specs.Slot.{span_of, slot, name_slot, field_slots}
use Rattle.checks.specs.declared.part.PartName.TheVariants.{Field}
use Rattle.checks.specs.declared.slot.Slot.{Slot}
use Rattle.checks.specs.declared.slot.Span.TheVariants.{Exactly, UpTo}
use Rattle.checks.proofs.LineWalk.{FieldWalk, LineWalk}
use Rattle.checks.proofs.CameLaws.{Comes, Silent, how_field, next-kinds, slot-came}

-- the fields of a row of the kinds `all`, and after them slots that give nothing
module _ (s : List ℕ) (m : ℕ) (all : List Kind) (tail : List Slot) (none : Silent all s tail) where
  fields-came : (j : ℕ) (ks : List Kind) (c x : ℕ) (vs : List Value) → drop j all ≡ ks → FieldWalk s m j ks c x vs
      → Comes all s (field_slots (suc j) (length vs) m ++ tail) c vs
  unfolding field_slots span_of
  fields-came j ks c x [] ek w = none c
  fields-came j [] c x (v ∷ vs) ek w = absurd w
  fields-came j (k ∷ ks) c x (v ∷ vs) ek w =
      let f = w.1 in
      let more = fields-came (suc j) ks (c + 1 + w.0) 44 vs (next-kinds all j k ks ek) w.2 in
      let l : length (take 1 (drop c s)) ≡ 1 = rw f.mark in
      slot-came all s (slot (Exactly 1) (Field (suc j)) (UpTo 44 m)) (field_slots (suc (suc j)) (length vs) m ++ tail) c 1 w.0 (v ∷ vs) l f.span
      (rw (how_field all j k ks ek) (f.read, more))

-- the name gives nothing
pub walk-came : (s : List ℕ) (m p : ℕ) (tail : List Slot) → ((ks : List Kind) → Silent ks s tail) → (r : Row) (vs : List Value)
    → LineWalk s m p (event r vs)
    → Comes (kinds_of r) s (name_slot m ∷ field_slots 1 (length vs) m ++ tail) p vs
unfolding span_of
walk-came s m p tail none r vs w =
    let l = length-take-le 2 (drop p s) (omega (arith, w.1.room, length-drop p s)) in
    slot-came (kinds_of r) s (name_slot m) (field_slots 1 (length vs) m ++ tail) p 2 w.0 vs l w.1.span
    (fields-came s m (kinds_of r) tail (none (kinds_of r)) 0 (kinds_of r) (p + 2 + w.0) 58 vs refl w.2)
