-- The checks of a W36 binary event, in 01's order.
use Rattle.std.specs.Prelude.{ℕ, ◌+◌, ◌-◌, List, [], ◌∷◌, ◌++◌, cond, leb, ltb, length, take, drop}
use Rattle.text.specs.Bytes.{starts_with}
use Rattle.text.specs.Find.{first_of}
use Rattle.text.specs.Utf8.{utf8, valid_up_to}
use Rattle.at.specs.Refusal.{no}
use Rattle.at.specs.Event.{Row, kinds_of}
use Rattle.at.specs.Binary.{fields_up_to, marker, announced, prefix}
use Rattle.checks.specs.Check.{Check, ◌needs◌else◌at◌}
use Rattle.checks.specs.Line.{field_checks}
use Rattle.checks.specs.declared.CheckName.TheVariants.{Utf8, Marker, LengthBytes, DataBytes}

-- the bytes before the first 01, and those after it
abbrev pub field_text : List ℕ → List ℕ
field_text t = take (first_of marker t) t

abbrev pub after_marker : List ℕ → List ℕ
after_marker t = drop (first_of marker t + 1) t

-- what follows the marker: two length bytes, high first, and that many data bytes. The input ends at the place `end`
abbrev pub data_checks : ℕ → List ℕ → List Check
data_checks end t =
    (LengthBytes needs leb 2 (length t) else no 12 at end)
    ∷ (DataBytes needs leb (announced t) (length t - 2) else no 12 at end)
    ∷ []

-- what follows the colon of a row's event, at the place p. The row's fields are cut at one comma fewer than it has kinds
unfoldable pub body_checks : Row → ℕ → List ℕ → List Check
body_checks r p t =
    (Marker needs ltb (first_of marker t) (length t) else no 12 at p + length t)
    ∷ (Utf8 needs utf8 (field_text t) else no 11 at p + valid_up_to (field_text t))
    ∷ field_checks 1 (p + length (field_text t)) (kinds_of r) (fields_up_to (length (kinds_of r) - 1) p (field_text t))
    ++ data_checks (p + length t) (after_marker t)

-- the checks of the bytes at the place p, or that they are no binary event at all
pub data Binary : Type 0 where
  not_binary : Binary
  binary : List Check → Binary

-- by the first row whose prefix, CR LF, name and colon, the bytes start with
unfoldable pub binary_checks : List Row → ℕ → List ℕ → Binary
binary_checks [] p s = not_binary
binary_checks (r ∷ rs) p s = cond (starts_with s (prefix r)) (binary (body_checks r (p + length (prefix r)) (drop (length (prefix r)) s))) (binary_checks rs p s)
