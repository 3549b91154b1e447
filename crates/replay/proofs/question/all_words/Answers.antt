use Rattle.std.proofs.Common.{refl}
use Rattle.replay.specs.Question.{words}
use Rattle.replay.proofs.question.all_words.Goals as goal

pub returns : goal.returns
unfolding words
returns c = refl
