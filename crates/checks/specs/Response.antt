-- The checks of an AT response, in 01's order.
use Rattle.std.specs.Prelude.{ℕ, ◌+◌, List, [], ◌∷◌, ltb, length, drop}
use Rattle.text.specs.Find.{crlf, first_of}
use Rattle.text.specs.Utf8.{utf8, valid_up_to}
use Rattle.at.specs.Refusal.{no}
use Rattle.at.specs.Line.{ends_in}
use Rattle.checks.specs.Check.{Check, ◌needs◌else◌at◌}
use Rattle.checks.specs.declared.CheckName.TheVariants.{Utf8, FirstLineEnd, LastLineEnd}

-- the response that starts at the place p
unfoldable pub response_checks : ℕ → List ℕ → List Check
response_checks p s =
    (Utf8 needs utf8 s else no 11 at p + valid_up_to s)
    ∷ (FirstLineEnd needs ltb (first_of crlf s) (length s) else no 12 at p + length s)
    ∷ (LastLineEnd needs ends_in (drop (first_of crlf s + 2) s) crlf else no 12 at p + length s)
    ∷ []
