use mathlib.Core.Path.{sym, ◌∙◌}
use native.Mathlib.Omega.{arith}
use Rattle.text.proofs.FindLaws.{from_at}
use Rattle.at.proofs.LineLaws.{name_found, fields-found, name_bare, fields-bare}
use Rattle.at.proofs.line.head_of.Goals as goal

pub overflow_sub-result : goal.overflow_sub-result
overflow_sub-result c = let r = from_at _ _ _ _ (sym c.first_byte.ensures ∙ c.in-Some.is) in omega arith

pub overflow_add-result : goal.overflow_add-result
overflow_add-result c = let r = from_at _ _ _ _ (sym c.first_byte.ensures ∙ c.in-Some.is) in omega arith

pub returns-in-Some : goal.returns-in-Some
returns-in-Some c = let e = sym c.first_byte.ensures ∙ c.in-Some.is in (name_found _ _ _ e, fields-found _ _ _ e)

pub returns-in-None : goal.returns-in-None
returns-in-None c = let e = sym c.first_byte.ensures ∙ c.in-None.is in (name_bare _ _ e, rw c.none.ensures (fields-bare _ _ e))
