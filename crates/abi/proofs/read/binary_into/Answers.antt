use mathlib.Core.Path.{◌≡◌, refl, sym, ap, ◌∙◌}
use lib.ListN.{drop}
use Rattle.std.specs.Prelude.{Ok}
use Rattle.at.specs.Refusal.{good, refused, refusal_of}
use Rattle.at.specs.Event.{event_to}
use Rattle.at.specs.Binary.{not_binary, tried, try_rows}
use Rattle.at.specs.W36.{binary_table, event_of, shown_binary}
use Rattle.at.proofs.TableTests.{roomy-binary}
use Rattle.at.proofs.WhyLaws.{binary-seven}
use Rattle.abi.specs.Row.{handed}
use Rattle.abi.proofs.CodeLaws.{at_known}
use Rattle.abi.proofs.ReadLaws.{refusal_numbers_lem, tried_answered}
use Rattle.abi.proofs.read.binary_into.Goals as goal

-- `read::binary_into` meets its contract. Assumes nothing.
pub returns-in-Ok-Some : goal.returns-in-Ok-Some
returns-in-Ok-Some c =
    let s = c.args.s.now in
    tried_answered (try_rows binary_table c.args.at (drop c.args.at s)) (tried (good (event_to (event_of c.in-Ok-Some.read.event) c.in-Ok-Some.read.past))) 0 c.args.row.now _ (sym c.try_parse_binary.ensures ∙ ap shown_binary (c.in-Ok-Some.is ∙ ap Ok c.in-Ok-Some.field-0-is)) (refl, c.hand_w36.ensures)

pub returns-in-Ok-None : goal.returns-in-Ok-None
returns-in-Ok-None c =
    let s = c.args.s.now in
    tried_answered (try_rows binary_table c.args.at (drop c.args.at s)) not_binary 255 c.args.row.now _ (sym c.try_parse_binary.ensures ∙ ap shown_binary (c.in-Ok-None.is ∙ ap Ok c.in-Ok-None.field-0-is)) (refl, c.hand_number.ensures)

pub returns-in-Err : goal.returns-in-Err
returns-in-Err c =
    let s = c.args.s.now in
    let e = c.in-Err.e in
    let o : try_rows binary_table c.args.at (drop c.args.at s) ≡ tried (refused (refusal_of e)) = sym c.try_parse_binary.ensures ∙ ap shown_binary c.in-Err.is in
    let why = c.of_at-why.ensures in
    let row = c.args.row.now in
    let numbers = refusal_numbers_lem (refusal_of e) _ (at_known e) (rw o at (binary-seven binary_table c.args.at (drop c.args.at s) roomy-binary)) why in
    tried_answered (try_rows binary_table c.args.at (drop c.args.at s)) (tried (refused (refusal_of e))) _ row _ o (why, c.hand_refusal.ensures ∙ ap (handed row) numbers)
