use Rattle.std.proofs.Common.{refl}
use Rattle.replay.specs.Question.{kinds}
use Rattle.replay.proofs.question.all_kinds.Goals as goal

pub returns : goal.returns
unfolding kinds
returns c = refl
