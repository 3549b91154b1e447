use mathlib.Core.Path.{◌≡◌, refl, sym, ap, ◌∙◌}
use Rattle.at.specs.Refusal.{good, refused, refusal_of}
use Rattle.at.specs.Event.{event_to}
use Rattle.at.specs.Line.{read_line}
use Rattle.at.proofs.WhyLaws.{line_seven}
use Rattle.abi.specs.Row.{read_numbers, handed}
use Rattle.abi.proofs.CodeLaws.{at_known}
use Rattle.abi.proofs.ReadLaws.{refusal_numbers_lem, answered}
use lib.ListN.{drop}
use Rattle.at.specs.W36.{rows36, w36, event_of, shown}
use Rattle.at.proofs.TableTests.{roomy-w36}
use Rattle.abi.proofs.read.w36_into.Goals as goal

-- `read::w36_into` meets its contract. Assumes nothing.
pub returns-in-Ok : goal.returns-in-Ok
returns-in-Ok c =
    let s = c.args.s.now in
    answered (read_numbers rows36) (read_line w36 c.args.at (drop c.args.at s)) (good (event_to (event_of c.in-Ok.read.event) c.in-Ok.read.past)) 0 c.args.row.now _ (sym c.read.ensures ∙ ap shown c.in-Ok.is) (refl, c.hand_w36.ensures)

pub returns-in-Err : goal.returns-in-Err
returns-in-Err c =
    let s = c.args.s.now in
    let e = c.in-Err.e in
    let o : read_line w36 c.args.at (drop c.args.at s) ≡ refused (refusal_of e) = sym c.read.ensures ∙ ap shown c.in-Err.is in
    let why = c.of_at-why.ensures in
    let row = c.args.row.now in
    let numbers = refusal_numbers_lem (refusal_of e) _ (at_known e) (rw o at (line_seven w36 c.args.at (drop c.args.at s) roomy-w36.0)) why in
    answered (read_numbers rows36) (read_line w36 c.args.at (drop c.args.at s)) (refused (refusal_of e)) _ row _ o (why, c.hand_refusal.ensures ∙ ap (handed row) numbers)
