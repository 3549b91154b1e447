use mathlib.Core.List.{[], ◌∷◌}
use Rattle.at.specs.Event.{num, at as placed}
use Rattle.render.specs.Words.{number_word}
use Rattle.render.proofs.FieldLaws.{prints-first, prints-more}
use Rattle.render.proofs.frame.with_data.Goals as goal

-- `frame::with_data` meets its contract. Assumes nothing.
pub returns : goal.returns
unfolding number_word
returns c =
    let start = c.args in
    let src = start.src.now in
    let channel = num start.channel.0 in
    prints-more start.name.now src (channel ∷ []) (placed start.t)
    (prints-first start.name.now src channel c.word-at.ensures c.number_after-at.ensures)
    c.text_after.ensures
