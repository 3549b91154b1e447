use mathlib.Core.Path.{sym, ◌∙◌}
use Rattle.scan.proofs.CutLaws.{starts_kept_lem, starts_skipped}
use Rattle.scan.proofs.run.first.Goals as goal

pub returns-in-Some : goal.returns-in-Some
returns-in-Some c = starts_kept_lem c.args.s.now c.in-Some.len (sym c.kept_length.ensures ∙ c.in-Some.is)

pub returns-in-None : goal.returns-in-None
returns-in-None c = starts_skipped c.args.s.now c.skipped_length.result c.requires (sym c.kept_length.ensures ∙ c.in-None.is) c.skipped_length.ensures
