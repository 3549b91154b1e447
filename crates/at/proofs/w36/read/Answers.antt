use Prim.Native.Nat.{ℕ}
use mathlib.Core.List.{List}
use mathlib.Core.Path.{◌≡◌, sym, ap, ◌∙◌}
use native.Mathlib.Omega.{arith}
use lib.ListN.{take, drop}
use Rattle.std.proofs.lemmas.Result.{err_from_is_err_and}
use Rattle.at.specs.Refusal.{good}
use Rattle.at.specs.Line.{body, framed, read_line}
use Rattle.at.specs.Steps.{framed_of}
use Rattle.at.proofs.EndLaws.{text-inside, text-kept, past_end, past_inside}
use Rattle.text.specs.Bytes.{part}
use Rattle.at.proofs.w36.read.Goals as goal
use Rattle.at.proofs.w36.read.Goals.{In_ok-body}

-- `w36::read` meets its contract: of a well-framed line, the text before the next CR LF is read. Assumes nothing.
-- the text of the line, up to its last two bytes
abbrev text : In_ok-body → List ℕ
text c = drop c.in_ok-body.body.start (take c.in_ok-body.body.end c.args.s.now)

framing : (c : In_ok-body) → let a = c.args in good (body c.in_ok-body.body.start (text c)) ≡ framed a.from (drop a.from a.s.now)
framing c = sym (ap (framed_of c.args.s.now) c.in_ok-body.was) ∙ c.frame_line.ensures

pub first_line_end-end-requires : goal.first_line_end-end-requires
first_line_end-end-requires c = let a = c.args in
    text-inside a.s.now a.from c.in_ok-body.body.start (text c) (framing c)

pub overflow_add-end : goal.overflow_add-end
overflow_add-end c = let a = c.args in
    let x = c.in_ok-body.body.start in
    omega (arith, past_inside a.s.now a.from x (text (goal.at.overflow_add-end c).In_ok-body) (framing (goal.at.overflow_add-end c).In_ok-body) c.first_line_end-end.result c.first_line_end-end.ensures, c.well_formed)

pub returns : goal.returns
unfolding read_line part
returns c = let a = c.args in
    let x = c.in_ok-body.body.start in
    let d = c.first_line_end-end in
    let e = framing (goal.at.returns c).In_ok-body in
    c.event_in.ensures ∙ rw (c.part.ensures, text-kept a.s.now a.from x (text (goal.at.returns c).In_ok-body) e d.result d.ensures, past_end a.s.now a.from x (text (goal.at.returns c).In_ok-body) e d.result d.ensures, ← e)

pub returns-in_err-body : goal.returns-in_err-body
unfolding read_line
returns-in_err-body c = let p = err_from_is_err_and c.from_residual.result c.from_residual.ensures.1 in rw (p.1, p.2, ← c.frame_line.ensures, c.in_err-body.was)
