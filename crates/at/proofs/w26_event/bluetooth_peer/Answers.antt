use Rattle.at.specs.Steps.{values_of}
use Rattle.at.proofs.w26_event.bluetooth_peer.Goals as goal

pub returns : goal.returns
unfolding values_of
returns c = rw (c.word.ensures, c.byte.ensures, c.text.ensures, c.word-2.ensures)
