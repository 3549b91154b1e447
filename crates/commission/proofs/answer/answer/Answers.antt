use Prim.Native.Nat.{ℕ, ◌<◌}
use mathlib.Core.Path.{◌≡◌}
use mathlib.Core.List.{List}
use mathlib.Core.Bool.{Bool, true, false}
use native.Mathlib.Omega.{arith}
use lib.ListN.{length}
use borrow.Author.Tests.{le-leb, lt-leb}
use Rattle.lines.proofs.InputLaws.{without_shorter}
use Rattle.commission.specs.Question.{nothing, asked_in}
use Rattle.commission.proofs.answer.answer.Goals as goal
use Rattle.commission.proofs.answer.answer.Goals.{then-gone-via-then-gone, then-gone-via-else-gone+then-line-gt-LONGEST}

-- `answer::answer` meets its contract. Assumes nothing.
gone_front : (line : List ℕ) {gone : Bool} → gone ≡ true → nothing ≡ asked_in gone line
unfolding asked_in
gone_front line e = rw e

long_line : (line : List ℕ) {gone : Bool} → gone ≡ false → 16384 < length line → nothing ≡ asked_in gone line
unfolding asked_in
long_line line e h = rw (e, lt-leb (length line) 16384 h)

pub returns-then-gone : goal.returns-then-gone
returns-then-gone c =
    let line = c.args.line.now in
    let e : nothing ≡ asked_in c.args.gone line = elim c.then-gone.branch [ then-gone-via-then-gone w ↦ gone_front line w.if-gone.true | then-gone-via-else-gone+then-line-gt-LONGEST w ↦ long_line line w.if-gone.false w.if-line-gt-LONGEST.true ] in
    rw (← e) c.replied.ensures

pub question_of-question-requires : goal.question_of-question-requires
question_of-question-requires c = rw c.without_cr.ensures (omega (arith, c.requires, c.if-line-gt-LONGEST.false, without_shorter c.args.line.now))

pub returns : goal.returns
unfolding asked_in
returns c = rw (c.if-gone.false, le-leb (length c.args.line.now) 16384 (omega (arith, c.if-line-gt-LONGEST.false)), ← c.without_cr.ensures, ← c.question_of-question.ensures) c.replied-2.ensures
