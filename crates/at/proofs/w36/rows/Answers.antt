use mathlib.Core.Path.{refl}
use Rattle.at.specs.Table.{spelled}
use Rattle.at.specs.W36.{table, binary_table, rows36}
use Rattle.at.proofs.w36.rows.Goals as goal

pub returns : goal.returns
unfolding spelled table binary_table rows36
returns c = refl
