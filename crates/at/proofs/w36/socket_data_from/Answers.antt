use mathlib.Core.Path.{◌≡◌, sym, ap, ◌∙◌}
use native.Mathlib.Omega.{arith}
use Prim.Native.Nat.{◌+◌, ◌<◌}
use lib.ListN.{length, drop}
use Rattle.std.proofs.lemmas.Result.{err_from_is_err_and}
use Rattle.at.specs.Refusal.{good}
use Rattle.at.specs.Binary.{find_marker, read_fields}
use Rattle.at.specs.W36.{UESODBF}
use Rattle.at.specs.Steps.{marked_of, data_of, address_of}
use Rattle.text.specs.Bytes.{part}
use Rattle.at.proofs.BinaryLaws.{marked-inside, data-inside, body_unmarked, body-marked, drop-part, part_length}
use Rattle.at.proofs.w36.socket_data_from.Goals as goal
use Rattle.at.proofs.w36.socket_data_from.Goals.{After-address_fields, In_ok-len}

-- `w36::socket_data_from` meets its contract: the marker, the three fields before it, the data after it. Assumes nothing.
-- the marker that was found, which is one of the bytes
marked : (c : In_ok-len) → let a = c.args in good c.in_ok-len.len ≡ find_marker (drop a.start a.s.now)
marked c = sym (ap marked_of c.in_ok-len.was) ∙ c.find_marker.ensures

inside : (c : In_ok-len) → let a = c.args in a.start + c.in_ok-len.len < length a.s.now
inside c =
    let a = c.args in
    marked-inside a.s.now a.start (marked c)

-- the fields before it
fields : (c : After-address_fields)
    → let a = c.args in address_of c.address_fields.result ≡ read_fields UESODBF a.start (part a.s.now a.start c.in_ok-len.len)
fields c =
    let a = c.args in
    c.address_fields.ensures ∙ rw (c.part.ensures, drop-part a.s.now a.start c.in_ok-len.len)

pub overflow_add-start : goal.overflow_add-start
overflow_add-start c = omega (arith, inside c, c.well_formed)

pub address_fields-requires : goal.address_fields-requires
address_fields-requires c =
    let a = c.args in
    let l = inside (goal.at.address_fields-requires c).In_ok-len in
    rw (c.part.ensures, part_length a.s.now 0 (a.start + c.in_ok-len.len) (omega arith)) (omega arith)

pub overflow_add-start-2 : goal.overflow_add-start-2
overflow_add-start-2 c = omega (arith, inside (goal.at.overflow_add-start-2 c).In_ok-len, c.well_formed)

pub overflow_add-start-3 : goal.overflow_add-start-3
overflow_add-start-3 c = omega (arith, inside (goal.at.overflow_add-start-3 c).In_ok-len, c.well_formed)

pub overflow_add-result : goal.overflow_add-result
overflow_add-result c = let a = c.args in
    let l = inside (goal.at.overflow_add-result c).In_ok-len in
    let at = a.start + c.in_ok-len.len + 1 in
    let d = data-inside a.s.now at (omega arith) (sym (ap data_of c.in_ok-data.was) ∙ c.data_at.ensures) in
    omega (arith, d.1, c.well_formed)

pub returns-in_err-len : goal.returns-in_err-len
returns-in_err-len c =
    let a = c.args in
    let p = err_from_is_err_and c.from_residual.result c.from_residual.ensures.1 in rw (p.1, p.2, body_unmarked UESODBF a.s.now a.start (sym (ap marked_of c.in_err-len.was) ∙ c.find_marker.ensures))

pub returns-in_err-address : goal.returns-in_err-address
returns-in_err-address c =
    let a = c.args in
    let p = err_from_is_err_and c.from_residual-in_err-address.result c.from_residual-in_err-address.ensures.1 in rw (p.1, p.2, body-marked UESODBF a.s.now a.start (marked (goal.at.returns-in_err-address c).In_ok-len), ← fields (goal.at.returns-in_err-address c).After-address_fields, c.in_err-address.was)

pub returns-in_err-data : goal.returns-in_err-data
returns-in_err-data c =
    let a = c.args in
    let p = err_from_is_err_and c.from_residual-in_err-data.result c.from_residual-in_err-data.ensures.1 in rw (p.1, p.2, body-marked UESODBF a.s.now a.start (marked (goal.at.returns-in_err-data c).In_ok-len), ← fields (goal.at.returns-in_err-data c).After-address_fields, c.in_ok-address.was, ← c.data_at.ensures, c.in_err-data.was)

pub returns : goal.returns
returns c =
    let a = c.args in
    rw (body-marked UESODBF a.s.now a.start (marked (goal.at.returns c).In_ok-len), ← fields (goal.at.returns c).After-address_fields, c.in_ok-address.was, ← c.data_at.ensures, c.in_ok-data.was)
