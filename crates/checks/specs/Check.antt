-- A check of 01 on one input, the first of a list that does not hold, and what makes it the true reason.
use Rattle.std.specs.Prelude.{ℕ, ◌≡◌, List, [], ◌∷◌, ◌++◌, Bool, true, false, cond, ◌&&◌}
use Rattle.at.specs.Refusal.{Refusal}
use Rattle.checks.specs.declared.CheckName.{CheckName}

-- a check: its name, whether it holds for this input, what it refuses with, and the byte that is shown where it does not hold
pub data Check : Type 0 where
  ◌needs◌else◌at◌ : CheckName → Bool → Refusal → ℕ → Check

infix 30 ◌needs◌else◌at◌
-- what a list of checks finds: all of them hold, or one that does not, with its refusal and its byte
pub data Finding : Type 0 where
  all_hold : Finding
  broken : CheckName → Refusal → ℕ → Finding

-- the first check that does not hold
unfoldable pub first_broken : List Check → Finding
first_broken [] = all_hold
first_broken ((c needs holds else n at b) ∷ checks) = cond holds (first_broken checks) (broken c n b)

-- every check holds
unfoldable pub every_holds : List Check → Bool
every_holds [] = true
every_holds ((c needs holds else n at b) ∷ checks) = holds && every_holds checks

-- the true reason: the named check stands in the list with this refusal and byte, it does not hold, and every check before it does
pub record TrueReason (checks : List Check) (c : CheckName) (n : Refusal) (b : ℕ) : Type 0 where
  pub earlier : List Check
  pub later : List Check
  pub order : checks ≡ earlier ++ (c needs false else n at b) ∷ later
  pub held : every_holds earlier ≡ true
