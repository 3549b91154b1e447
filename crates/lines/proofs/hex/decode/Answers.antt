use mathlib.Core.Path.{refl, sym, ap, ◌∙◌}
use mathlib.Core.List.{[]}
use native.Mathlib.Omega.{arith}
use lib.ListN.{length}
use Rattle.std.specs.Prelude.{Ok, Err}
use Rattle.std.proofs.lemmas.Result.{err_from_is_err_and}
use Rattle.lines.specs.Hex.{pairs, some_bytes}
use Rattle.lines.proofs.HexLaws.{dash, no_dash, counted-no_hex, counted-bytes, some_bytes_lem, no_bytes, answer-room, answer_full, after-room, after_full}
use Rattle.lines.proofs.hex.decode.Goals as goal

-- `decode` meets its contract.
pub returns-then-same : goal.returns-then-same
returns-then-same c = let a = c.args in
    let e = dash a.s.now c.same.ensures c.if-same.true in
    rw e (sym (answer-room (length a.bytes.now) [] (omega arith)), sym (after-room a.bytes.now [] (omega arith)))

pub returns-in_err-n : goal.returns-in_err-n
returns-in_err-n c = let a = c.args in
    let e = no_dash a.s.now c.same.ensures c.if-same.false in
    let k = counted-no_hex c.in_err-n.field-0.0 (pairs a.s.now) (sym c.in_err-n.was ∙ c.count.ensures) in
    let p = err_from_is_err_and c.from_residual.result c.from_residual.ensures.1 in
    rw (e ∙ ap some_bytes k.0) (p.1 ∙ ap Err (p.2 ∙ k.1), refl)

pub returns-then-n-eq0 : goal.returns-then-n-eq0
returns-then-n-eq0 c = let a = c.args in
    let e = no_dash a.s.now c.same.ensures c.if-same.false in
    let n = c.in_ok-n in
    let k = counted-bytes n.n (pairs a.s.now) (sym n.was ∙ c.count.ensures) in
    rw (e ∙ ap some_bytes k.1 ∙ no_bytes n.n k.0 k.2 c.if-n-eq0.true) (refl, refl)

pub returns-then-bytes-n : goal.returns-then-bytes-n
returns-then-bytes-n c = let a = c.args in
    let e = no_dash a.s.now c.same.ensures c.if-same.false in
    let n = c.in_ok-n in
    let k = counted-bytes n.n (pairs a.s.now) (sym n.was ∙ c.count.ensures) in
    let l = k.2 in
    let t = c.if-bytes-n.true in
    rw (e ∙ ap some_bytes k.1 ∙ some_bytes_lem n.n k.0 l c.if-n-eq0.false) (sym (answer_full (length a.bytes.now) k.0 (omega arith)), sym (after_full a.bytes.now k.0 (omega arith)))

pub returns : goal.returns
returns c = let a = c.args in
    let e = no_dash a.s.now c.same.ensures c.if-same.false in
    let n = c.in_ok-n in
    let k = counted-bytes n.n (pairs a.s.now) (sym n.was ∙ c.count.ensures) in
    let l = k.2 in
    let t = c.if-bytes-n.false in
    rw (e ∙ ap some_bytes k.1 ∙ some_bytes_lem n.n k.0 l c.if-n-eq0.false)
    (ap Ok (sym l) ∙ sym (answer-room (length a.bytes.now) k.0 (omega arith)), c.fill.ensures k.0 k.1 (omega arith) ∙ sym (after-room a.bytes.now k.0 (omega arith)))
