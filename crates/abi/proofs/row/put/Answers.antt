use mathlib.Core.Path.{sym, ap, ◌∙◌}
use native.Mathlib.Omega.{arith}
use lib.ListN.{length, length-take, length-drop}
use Rattle.abi.proofs.RowLaws.{put_part}
use Rattle.abi.proofs.row.put.Goals as goal

-- `row::put` meets its contract. Assumes nothing.
pub returns : goal.returns
returns g c =
    let copied = c.copy_from_slice.ensures in
    let part = rw (length-take, length-drop) at copied.len in
    put_part c.args.row.now c.copy_from_slice.new.self c.args.numbers c.args.at g.row.N copied.after (sym (ap length copied.after) ∙ part ∙ omega (arith, c.requires))
