use Rattle.dump.proofs.window.keep.Goals as goal

-- `window::keep` meets its contract. Assumes nothing.
pub returns : goal.returns
returns g c = (rw c.count_frame-r.ensures, c.put_frame-r.ensures)
