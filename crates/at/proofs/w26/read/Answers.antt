use mathlib.Core.Path.{◌≡◌, sym, ap, ◌∙◌}
use lib.ListN.{take, drop}
use Rattle.std.proofs.lemmas.Result.{err_from_is_err_and}
use Rattle.at.specs.Refusal.{good}
use Rattle.at.specs.Line.{body, framed, read_line}
use Rattle.at.specs.Steps.{framed_of}
use Rattle.at.proofs.EndLaws.{line_to_end}
use Rattle.text.specs.Bytes.{part}
use Rattle.at.proofs.w26.read.Goals as goal

pub returns : goal.returns
unfolding read_line part
returns c = let a = c.args in
    let x = c.in_ok-body.body.start in
    let end = c.in_ok-body.body.end in
    let e : good (body x (drop x (take end a.s.now))) ≡ framed a.from (drop a.from a.s.now)
    = sym (ap (framed_of a.s.now) c.in_ok-body.was) ∙ c.frame_line.ensures in
    c.event_in.ensures ∙ rw (c.part.ensures, line_to_end a.s.now a.from x (drop x (take end a.s.now)) e, ← e)

pub returns-in_err-body : goal.returns-in_err-body
unfolding read_line
returns-in_err-body c = let p = err_from_is_err_and c.from_residual.result c.from_residual.ensures.1 in rw (p.1, p.2, ← c.frame_line.ensures, c.in_err-body.was)
