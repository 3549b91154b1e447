-- 17 for each text field of a W26 event, by the promise of `write` itself: whichever of its texts can't be written, the write is refused and no byte
-- changes. Assumes nothing.
use Prim.Native.Nat.{ℕ}
use mathlib.Core.Path.{◌≡◌, refl}
use mathlib.Core.List.{List, [], ◌∷◌, ◌++◌, append-nil}
use mathlib.Core.Bool.{Bool, true, false, ◌&&◌}
use lib.ListN.{length}
use Rattle.std.specs.Prelude.{Err}
use contract.Lifetimes.{Lfts}
use denote.Triple.Clauses.{AtExit}
use borrow.Fn.Kinds.{Dens, GoodsP, ended_of}
use Rattle.at.specs.Refusal.{refused, no}
use Rattle.at.specs.Event.{Row, kinds_of, Value, event}
use Rattle.at.specs.W26 as w26
use Rattle.writer.specs.Write.{writable_field, writable_fields, writable, to_write}
use Rattle.writer.specs.Firmware.{TextValues, TextEvent}
use Rattle.writer.specs.declared.EventWriteError.TheVariants as error
use Rattle.writer.proofs.WriterAnswers.{Answer, shown_injective}
use Rattle.writer.proofs.FirmwareAccepted.{writable_parts}
use Rattle.writer.proofs.FirmwareEvents.{Owned26, form-w26, owned_26}
use Rattle.writer.proofs.Writers as writers
use Rattle.writer.proofs.Writers.{given, answers, Ensured}

-- one field that can't be written is enough
one-is_enough : (src : List ℕ) (us ws : List Value) (v : Value) → writable_field false src v ≡ false → writable_fields false src (us ++ v ∷ ws) ≡ false
unfolding writable_fields
one-is_enough src [] ws v h = rw h
one-is_enough src (u ∷ us) ws v h = go (writable_field false src u) (one-is_enough src us ws v h)
  where
    go : (k : Bool) → writable_fields false src (us ++ v ∷ ws) ≡ false → k && writable_fields false src (us ++ v ∷ ws) ≡ false
    go true ih = ih
    go false ih = refl

not_written : (room : ℕ) (src : List ℕ) (r : Row) (vs : List Value) → TextValues (kinds_of r) vs → writable_fields false src vs ≡ false → to_write room src (event r vs) ≡ refused (no 17)
unfolding to_write
not_written room src r vs t h =
    let e : writable src r vs ≡ writable_fields false src vs = rw (append-nil vs) at (writable_parts src r vs [] t) in
    rw (e, h)

-- `typed` is the kit's word that the event is a value of its type
pub each_text_17 : (κs : Lfts 3) (a : Dens κs (given writers.w26)) → Owned26 a.1.1.0 → (x : AtExit (ended_of 3 (given writers.w26) (answers writers.w26)) κs) (q : Answer)
    → Ensured writers.w26 κs a q x → (r : Row) (us ws : List Value) (v : Value) → w26.event_of a.1.1.0 ≡ event r (us ++ v ∷ ws)
    → writable_field false a.1.0.now v ≡ false → (q ≡ Err error.FieldNotWritable) × (x.0.now ≡ a.0.now)
each_text_17 κs a typed x q p r us ws v e h =
    let form : TextEvent w26.table (event r (us ++ v ∷ ws)) = rw e at (form-w26 a.1.1.0 typed) in
    let refusal = not_written (length a.0.now) a.1.0.now r (us ++ v ∷ ws) form.1 (one-is_enough a.1.0.now us ws v h) in
    let promise = rw (e, refusal) at p in
    (shown_injective q (Err error.FieldNotWritable) promise.answers, promise.leaves)

-- the same, from the kit's word that each argument of the call is a value of its type
pub each_text_17_of_values : (κs : Lfts 3) (a : Dens κs (given writers.w26)) → GoodsP κs (given writers.w26) a
    → (x : AtExit (ended_of 3 (given writers.w26) (answers writers.w26)) κs) (q : Answer)
    → Ensured writers.w26 κs a q x → (r : Row) (us ws : List Value) (v : Value) → w26.event_of a.1.1.0 ≡ event r (us ++ v ∷ ws)
    → writable_field false a.1.0.now v ≡ false → (q ≡ Err error.FieldNotWritable) × (x.0.now ≡ a.0.now)
each_text_17_of_values κs a typed = each_text_17 κs a (owned_26 κs a typed)
