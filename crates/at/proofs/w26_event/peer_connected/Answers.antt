use Rattle.at.specs.Steps.{values_of}
use Rattle.at.proofs.w26_event.peer_connected.Goals as goal

pub returns : goal.returns
unfolding values_of
returns c = rw (c.word.ensures, c.profile_of.ensures, c.text.ensures, c.word-2.ensures, c.text-2.ensures, c.word-3.ensures)
