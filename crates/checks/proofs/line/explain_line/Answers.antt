use mathlib.Core.Path.{sym, ap, ◌∙◌}
use Rattle.at.specs.Refusal.{answered}
use Rattle.at.specs.Event.{read_as}
use Rattle.checks.proofs.TextTie.{known_chooses}
use Rattle.checks.proofs.ExplainLaws.{line_accepted, line_refused}
use Rattle.checks.proofs.line.explain_line.Goals as goal

pub returns-in-Ok : goal.returns-in-Ok
returns-in-Ok g c = let a = c.args in
    let said = sym c.read.ensures ∙ ap (answered (read_as g.E.Line.event_of)) c.in-Ok.is in
    rw c.over.ensures (line_accepted g.E.Line.radio (known_chooses _ g.met.E.Line.known) a.s.now a.from _ _ said (c.shape_of-shape.ensures ∙ rw c.saturating_sub.ensures))

pub returns-in-Err : goal.returns-in-Err
returns-in-Err g c = let a = c.args in
    let said = sym c.read.ensures ∙ ap (answered (read_as g.E.Line.event_of)) c.in-Err.is in
    rw c.refuses.ensures (line_refused g.E.Line.radio (known_chooses _ g.met.E.Line.known) a.s.now a.from _ _ _ said c.line_reason.ensures)
