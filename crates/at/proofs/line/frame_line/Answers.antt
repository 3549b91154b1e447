use mathlib.Core.Path.{◌≡◌, sym, ◌∙◌, ap}
use mathlib.Core.Bool.{true, false}
use Prim.Native.Nat.{◌-◌}
use native.Mathlib.Omega.{arith}
use lib.ListN.{length, length-drop}
use Rattle.text.specs.Utf8.{utf8, inside_character}
use Rattle.text.proofs.BytesLaws.{part-rest}
use Rattle.at.proofs.LineLaws.{within-rest, framed_foreign, framed-short, framed-inside, framed_open, framed-whole}
use Rattle.at.proofs.line.frame_line.Goals as goal
use Rattle.at.proofs.line.frame_line.Goals.{After-part-line, Else-inside_character, Else-not-is_utf8}

-- `line::frame_line` meets its contract: the tests of the framing, in their order. Assumes nothing.
-- the line is what stands from its place on
line_length : (c : After-part-line) → length c.part-line.result.now ≡ length c.args.s.now - c.args.from
line_length c = ap length (c.part-line.ensures ∙ part-rest _ _) ∙ length-drop c.args.from c.args.s.now

valid : (c : Else-not-is_utf8) → utf8 c.part-line.result.now ≡ true
valid c = sym c.is_utf8.ensures ∙ c.if-not-is_utf8.false

between : (c : Else-inside_character) → inside_character c.part-line.result.now 2 ≡ false
between c = sym c.inside_character.ensures ∙ c.if-inside_character.false

pub returns-then-not-is_utf8 : goal.returns-then-not-is_utf8
returns-then-not-is_utf8 c = rw (← part-rest, ← c.part-line.ensures) (sym (framed_foreign _ _ (sym c.is_utf8.ensures ∙ c.if-not-is_utf8.true)))

pub returns-then-n-lt4 : goal.returns-then-n-lt4
returns-then-n-lt4 c = rw (← part-rest, ← c.part-line.ensures) (sym (framed-short _ _ (valid (goal.at.returns-then-n-lt4 c).Else-not-is_utf8) c.if-n-lt4.true))

pub returns-then-inside_character : goal.returns-then-inside_character
returns-then-inside_character c = rw (← part-rest, ← c.part-line.ensures)
    (sym (framed-inside _ _ (valid (goal.at.returns-then-inside_character c).Else-not-is_utf8) c.if-n-lt4.false (sym c.inside_character.ensures ∙ c.if-inside_character.true)))

pub overflow_add-result : goal.overflow_add-result
overflow_add-result c = omega (arith, line_length (goal.at.overflow_add-result c).After-part-line)

pub overflow_add-result-then-starts_at : goal.overflow_add-result-then-starts_at
overflow_add-result-then-starts_at c = omega (arith, line_length (goal.at.overflow_add-result-then-starts_at c).After-part-line)

pub returns-then-starts_at : goal.returns-then-starts_at
returns-then-starts_at c = let e = c.part-line.ensures ∙ part-rest _ _ in
    let w = framed-whole _ _ (valid (goal.at.returns-then-starts_at c).Else-not-is_utf8) c.if-n-lt4.false (between (goal.at.returns-then-starts_at c).Else-inside_character) (sym c.starts_at.ensures ∙ c.if-starts_at.true) in
    rw (← e) (sym (w ∙ rw (e, within-rest)))

pub returns-else-starts_at : goal.returns-else-starts_at
returns-else-starts_at c = let w = framed_open _ _ (valid (goal.at.returns-else-starts_at c).Else-not-is_utf8) c.if-n-lt4.false (between (goal.at.returns-else-starts_at c).Else-inside_character) (sym c.starts_at.ensures ∙ c.if-starts_at.false) in
    rw (← part-rest, ← c.part-line.ensures) (sym w)
