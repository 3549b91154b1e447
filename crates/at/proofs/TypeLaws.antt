-- 01's sentence on the type of `+UUDPC`, with the `1` that request 3 of document 02 adds: "the exact text `1` (Bluetooth), `2` (IPv4) or `3` (IPv6);
-- anything else is 13, before later fields are looked at". The definition says it by two rows; here it is said as it stands there. Assumes nothing.
use Prim.Native.Nat.{ℕ}
use mathlib.Core.Path.{◌≡◌, refl}
use mathlib.Core.List.{List, [], ◌∷◌}
use mathlib.Core.Bool.{Bool, true, false, cond, ◌||◌}
use Rattle.text.specs.Bytes.{bytes, same}
use Rattle.text.specs.Field.{Field, field}
use Rattle.text.specs.Number.{some, number}
use Rattle.text.proofs.BytesLaws.{same_equal}
use Rattle.at.specs.Refusal.{refused, no}
use Rattle.at.specs.Event.{read_field, take_kind, take_kinds, read_row}
use Rattle.at.specs.Line.{rows_named, by_type, by_name}
use Rattle.at.specs.W26.{table, UUDPC, UUDPC-BT}
use Rattle.at.proofs.RowsLaws.{last_decides, twice_named}

-- a handle that is a number, then the type, then whatever follows
module _ (p q n : ℕ) (h t : List ℕ) (rest : List Field) (e : number 16 h ≡ some n) where
  abbrev fields : List Field
  fields = field p h ∷ field q t ∷ rest

  not_bluetooth : same t (bytes "1") ≡ false → read_row UUDPC-BT fields ≡ refused (no 13)
  unfolding read_row take_kinds take_kind read_field
  not_bluetooth f = rw (e, f)

  not_ip : same t (bytes "2") ≡ false → same t (bytes "3") ≡ false → read_row UUDPC fields ≡ refused (no 13)
  unfolding read_row take_kinds take_kind read_field
  not_ip f g = rw (e, f, g)

  bluetooth_only : same t (bytes "1") ≡ true → (same t (bytes "2") ≡ false) × (same t (bytes "3") ≡ false)
  unfolding same
  bluetooth_only f = rw (same_equal t (bytes "1") f) (refl, refl)

  pub type_decides : by_name (rows_named table (bytes "+UUDPC")) fields
      ≡ cond (same t (bytes "1")) (read_row UUDPC-BT fields) (cond (same t (bytes "2") || same t (bytes "3")) (read_row UUDPC fields) (refused (no 13)))
  unfolding by_type
  type_decides = rw twice_named (go (same t (bytes "1")) refl (same t (bytes "2")) refl (same t (bytes "3")) refl)
    where
      go : (a : Bool) → same t (bytes "1") ≡ a → (b : Bool) → same t (bytes "2") ≡ b → (c : Bool) → same t (bytes "3") ≡ c
          → by_type (UUDPC ∷ UUDPC-BT ∷ []) fields ≡ cond a (read_row UUDPC-BT fields) (cond (b || c) (read_row UUDPC fields) (refused (no 13)))
      go true a b f c g = let x = bluetooth_only a in rw (not_ip x.0 x.1) (last_decides (read_row UUDPC-BT fields))
      go false a true f c g = rw (not_bluetooth a) (last_decides (read_row UUDPC fields))
      go false a false f true g = rw (not_bluetooth a) (last_decides (read_row UUDPC fields))
      go false a false f false g = rw (not_bluetooth a, not_ip f g)
