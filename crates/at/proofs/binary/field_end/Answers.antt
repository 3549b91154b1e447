use mathlib.Core.List.{[], ◌∷◌}
use Rattle.at.proofs.LineLaws.{found_or_end}
use Rattle.at.proofs.binary.field_end.Goals as goal

pub returns : goal.returns
returns c = let a = c.args in
    rw (c.unwrap_or.ensures, c.first_byte.ensures) (found_or_end (44 ∷ []) a.s.now a.start c.requires)
