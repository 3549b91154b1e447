-- Values that have no kinds, printed one after the other.
use Prim.Native.Nat.{ℕ}
use mathlib.Core.Path.{◌≡◌, sym}
use mathlib.Core.List.{List, [], ◌∷◌, ◌++◌, append-nil, append_assoc}
use Rattle.text.specs.Bytes.{bytes}
use Rattle.at.specs.Event.{text, Value}
use Rattle.render.specs.Print.{Prints}
use Rattle.render.specs.Words.{word_of, values_line}
use Rattle.render.proofs.PrintLaws.{prints_then}

values_snoc : (src : List ℕ) (vs : List Value) (v : Value) → values_line [] src (vs ++ v ∷ []) ≡ values_line [] src vs ++ (bytes " " ++ word_of text src v)
unfolding values_line
values_snoc src [] v = append-nil (bytes " " ++ word_of text src v)
values_snoc src (u ∷ vs) v =
    rw (values_snoc src vs v) (sym (append_assoc (bytes " " ++ word_of text src u) (values_line [] src vs) (bytes " " ++ word_of text src v)))

-- after a text x and values: one more value, and the first
module _ (x src : List ℕ) {b c d : List ℕ} {at q r : ℕ} where
  pub prints-more : (vs : List Value) (v : Value) → Prints b at (x ++ values_line [] src vs) q c → Prints c q (bytes " " ++ word_of text src v) r d
      → Prints b at (x ++ values_line [] src (vs ++ v ∷ [])) r d
  prints-more vs v p s = rw (values_snoc src vs v, ← append_assoc x (values_line [] src vs) (bytes " " ++ word_of text src v)) (prints_then p s)

  pub prints-first : (v : Value) → Prints b at x q c → Prints c q (bytes " " ++ word_of text src v) r d → Prints b at (x ++ values_line [] src (v ∷ [])) r d
  unfolding values_line
  prints-first v p s = rw (append-nil (bytes " " ++ word_of text src v)) (prints_then p s)
