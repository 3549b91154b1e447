use Rattle.std.proofs.Common.{◌∙◌}
use Rattle.replay.specs.Question.{kinds}
use Rattle.replay.proofs.QuestionLaws.{means-kind}
use Rattle.replay.proofs.question.explained_kind.Goals as goal

pub returns : goal.returns
returns c = c.meaning.ensures ∙ means-kind c.args.name.now c.all_kinds.result.now kinds c.all_kinds.ensures
