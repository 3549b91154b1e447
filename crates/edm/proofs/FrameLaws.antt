-- Laws of a frame: the payload's length, and the length of a frame that is accepted. Assumes nothing.
use Prim.Native.Nat.{ℕ, ◌+◌, ◌-◌}
use mathlib.Core.Path.{◌≡◌, refl, ◌∙◌}
use mathlib.Core.List.{List}
use mathlib.Core.Bool.{Bool, true, false, cond}
use native.Mathlib.Omega.{arith}
use lib.Dec.{eqb, ltb}
use lib.ListN.{length, take, length-drop}
use lib.Seq.{length-take-le}
use borrow.Author.Tests.{eqb-true, ltb-false}
use Rattle.at.specs.Refusal.{OrRefused, good, refused, no}
use Rattle.edm.specs.Packet.{Packet}
use Rattle.edm.specs.Frame.{delimited, length_field, payload, read_frame}

-- a packet comes by the tests that refuse with 2 and 3
accepted : (d l m : Bool) (o : OrRefused Packet) (p : Packet) → cond d (cond l (refused (no 2)) (cond m o (refused (no 3)))) (refused (no 1)) ≡ good p → (l ≡ false) × (m ≡ true)
accepted true false true o p e = (refl, refl)
accepted true false false o p e = absurd cc
accepted true true m o p e = absurd cc
accepted false l m o p e = absurd cc

module _ (s : List ℕ) where
  -- the payload is the frame without 5 bytes before it and 1 after it
  pub payload-length : length (payload s) ≡ length s - 6
  payload-length = length-drop 5 (take (length s - 1) s) ∙ rw (length-take-le (length s - 1) s (omega arith)) (omega arith)

  -- a frame that is accepted is as long as its length field says, and 4 bytes more: AA, the field itself and 55
  pub accepted-length : (p : Packet) → read_frame s ≡ good p → length s ≡ length_field s + 4
  unfolding read_frame
  accepted-length p e =
      let passed = accepted (delimited s) (ltb (length s) 6) (eqb (length_field s) (length (payload s) + 2)) _ p e in
      omega (arith, ltb-false (length s) 6 passed.0, eqb-true (length_field s) (length (payload s) + 2) passed.1, payload-length)
