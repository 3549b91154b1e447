-- The checks of an AT response, and the reader's answer to the same bytes.
use Prim.Native.Nat.{ℕ, ◌+◌, ◌-◌}
use mathlib.Core.Path.{◌≡◌, refl}
use mathlib.Core.List.{List}
use mathlib.Core.Bool.{Bool, true, false, cond}
use native.Mathlib.Omega.{arith}
use lib.Dec.{ltb}
use lib.ListN.{length, take, drop}
use Rattle.text.specs.Find.{crlf, first_of}
use Rattle.text.specs.Utf8.{utf8, valid_up_to}
use Rattle.at.specs.Refusal.{no, OrRefused, good, refused}
use Rattle.at.specs.Line.{ends_in}
use Rattle.at.specs.Response.{Response, read_body, read_rest, read_response}
use Rattle.checks.specs.Check.{Finding, all_hold, broken, first_broken}
use Rattle.checks.specs.Response.{response_checks}
use Rattle.checks.specs.Steps.{response_reason}
use Rattle.checks.specs.declared.CheckName.TheVariants.{Utf8, FirstLineEnd, LastLineEnd}
use Rattle.checks.proofs.LineTie.{From}

-- what the checks find, by the reader's answer
abbrev pub found_response : ℕ → List ℕ → OrRefused Response → Finding
found_response p s (good r) = all_hold
found_response p s (refused n) = response_reason p s n

module _ (p : ℕ) (s : List ℕ) where
  abbrev rest : List ℕ
  rest = drop (first_of crlf s + 2) s

  pub response-found : first_broken (response_checks p s) ≡ found_response p s (read_response p s)
  unfolding response_checks read_response read_rest first_broken response_reason
  response-found = go (utf8 s) (ltb (first_of crlf s) (length s)) refl (ends_in rest crlf)
    where
      go : (u first : Bool) → ltb (first_of crlf s) (length s) ≡ first → (last : Bool)
          → cond u (cond first (cond last all_hold (broken LastLineEnd (no 12) (p + length s))) (broken FirstLineEnd (no 12) (p + length s))) (broken Utf8 (no 11) (p + valid_up_to s))
          ≡ found_response p s (cond u (cond first (cond last (good (read_body (p + first_of crlf s + 2) (take (length rest - 2) rest))) (refused (no 12))) (refused (no 12))) (refused (no 11)))
      go false first f last = refl
      go true false f last = rw f
      go true true f false = rw f
      go true true f true = refl

  pub response-from : From 11 (read_response p s)
  unfolding read_response read_rest
  response-from = go (utf8 s) (ltb (first_of crlf s) (length s)) (ends_in rest crlf)
    where
      go : (u first last : Bool)
          → From 11 (cond u (cond first (cond last (good (read_body (p + first_of crlf s + 2) (take (length rest - 2) rest))) (refused (no 12))) (refused (no 12))) (refused (no 11)))
      go false first last = omega arith
      go true false last = omega arith
      go true true false = omega arith
      go true true true = tt
