use Rattle.std.proofs.Common.{sym, ◌∙◌}
use Rattle.capture.proofs.LineLaws.{blank_dropped, rest-kept, trimmed-none}
use Rattle.capture.proofs.line.trim.Goals as goal

pub returns-then-not-is_blank : goal.returns-then-not-is_blank
returns-then-not-is_blank c = let l = c.loop-left in
    sym (l.invariant ∙ rest-kept l.left.now c.in-len1-up.len_at_least (sym c.if-not-is_blank.ensures))

pub loop-left-preserved : goal.loop-left-preserved
loop-left-preserved c = let l = c.loop-left in
    l.invariant ∙ blank_dropped l.left.now c.in-len1-up.len_at_least (sym c.if-not-is_blank.ensures)

pub returns : goal.returns
returns c = let l = c.loop-left in
    sym (l.invariant ∙ trimmed-none l.left.now c.in_default.len_below)
