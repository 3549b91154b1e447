use Rattle.std.proofs.Common.{◌∙◌}
use Rattle.replay.specs.Question.{words}
use Rattle.replay.proofs.QuestionLaws.{means_word}
use Rattle.replay.proofs.question.kind_of.Goals as goal

pub returns : goal.returns
returns c = c.meaning.ensures ∙ means_word c.args.name.now c.all_words.result.now words c.all_words.ensures
