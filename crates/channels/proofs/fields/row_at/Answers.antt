use Rattle.channels.proofs.fields.row_at.Goals as goal

-- `fields::row_at` meets its contract. Assumes nothing.
pub returns : goal.returns
returns c = rw c.from-i.ensures
