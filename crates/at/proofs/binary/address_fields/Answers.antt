use mathlib.Core.Path.{◌≡◌, ◌∙◌}
use mathlib.Core.List.{[], ◌∷◌}
use native.Mathlib.Omega.{arith}
use Prim.Native.Nat.{◌+◌, ◌-◌}
use lib.ListN.{length, drop}
use borrow.Author.Tests.{lt-ltb, le-ltb}
use Rattle.std.proofs.lemmas.Result.{err_from_is_err_and}
use Rattle.text.specs.Bytes.{part}
use Rattle.text.specs.Field.{field}
use Rattle.at.specs.Event.{bits, text, num, place, read_field, take_kind, prepend, take_kinds}
use Rattle.at.specs.Binary.{fields_up_to, read_fields}
use Rattle.at.specs.W36.{UESODBF}
use Rattle.text.proofs.BytesLaws.{part-rest}
use Rattle.at.proofs.BinaryLaws.{cut_at, up_to_none, part_length}
use Rattle.at.proofs.binary.address_fields.Goals as goal
use Rattle.at.proofs.binary.address_fields.Goals.{Else-n-end, Else-n-ip_end}

-- `binary::address_fields` meets its contract: the fields of +UESODBF are cut at the first two commas, and each is first there, then of its form. Assumes nothing.
-- the socket is read and a comma follows: what the fields after it give
after-socket : (c : Else-n-end)
    → let a = c.args in
    let end = c.field_end-end.result in
    read_fields UESODBF a.start (drop a.start a.s.now)
    ≡ prepend (num c.in_ok-socket.socket) (take_kinds 2 (text ∷ bits 16 ∷ []) (fields_up_to 1 (end + 1) (drop (end + 1) a.s.now)))
unfolding take_kind take_kinds read_fields
after-socket c =
    let a = c.args in
    rw (cut_at 1 a.s.now a.start c.field_end-end.ensures, ← c.part.ensures, ← c.number_in.ensures a.start, c.in_ok-socket.was, lt-ltb _ _ c.if-n-end.false)

-- a comma follows the address too: the port is all that follows it
after-address : (c : Else-n-ip_end)
    → let a = c.args in
    let end = c.field_end-end.result in
    read_fields UESODBF a.start (drop a.start a.s.now)
    ≡ prepend (num c.in_ok-socket.socket) (take_kinds 2 (text ∷ bits 16 ∷ []) (fields_up_to 1 (end + 1) (drop (end + 1) a.s.now)))
    → let ip = c.field_end-end.result + 1 in
    let end = c.field_end-ip_end.result in
    read_fields UESODBF a.start (drop a.start a.s.now)
    ≡ prepend (num c.in_ok-socket.socket)
    (prepend (place ip (end - ip)) (take_kinds 3 (bits 16 ∷ []) (field (end + 1) (part a.s.now (end + 1) (length a.s.now)) ∷ [])))
unfolding read_field take_kind take_kinds
after-address c h =
    let s = c.args.s.now in
    let ip = c.field_end-end.result + 1 in
    let end = c.field_end-ip_end.result in
    h
    ∙ rw (cut_at 0 s ip c.field_end-ip_end.ensures, part_length s ip (end - ip) (omega arith), lt-ltb _ _ c.if-n-ip_end.false, up_to_none, part-rest s (end + 1))

pub returns-in_err-socket : goal.returns-in_err-socket
unfolding take_kind take_kinds read_fields
returns-in_err-socket c =
    let a = c.args in
    let p = err_from_is_err_and c.from_residual.result c.from_residual.ensures.1 in
    rw (p.1, p.2, cut_at 1 a.s.now a.start c.field_end-end.ensures, ← c.part.ensures, ← c.number_in.ensures a.start, c.in_err-socket.was)

pub returns-then-n-end : goal.returns-then-n-end
unfolding take_kind take_kinds read_fields
returns-then-n-end c =
    let a = c.args in
    rw (cut_at 1 a.s.now a.start c.field_end-end.ensures, ← c.part.ensures, ← c.number_in.ensures a.start, c.in_ok-socket.was, le-ltb _ _ c.if-n-end.true)

pub returns-then-n-ip_end : goal.returns-then-n-ip_end
unfolding read_field take_kind take_kinds
returns-then-n-ip_end c =
    rw (after-socket (goal.at.returns-then-n-ip_end c).Else-n-end, cut_at 0 c.args.s.now (c.field_end-end.result + 1) c.field_end-ip_end.ensures, le-ltb _ _ c.if-n-ip_end.true)

pub returns-in_err-port : goal.returns-in_err-port
unfolding take_kind take_kinds
returns-in_err-port c =
    let p = err_from_is_err_and c.from_residual-in_err-port.result c.from_residual-in_err-port.ensures.1 in
    rw (p.1, p.2, after-address (goal.at.returns-in_err-port c).Else-n-ip_end (after-socket (goal.at.returns-in_err-port c).Else-n-end), ← c.part-2.ensures, ← c.number_in-2.ensures (c.field_end-ip_end.result + 1), c.in_err-port.was)

pub returns : goal.returns
unfolding take_kind take_kinds
returns c = rw (after-address (goal.at.returns c).Else-n-ip_end (after-socket (goal.at.returns c).Else-n-end), ← c.part-2.ensures, ← c.number_in-2.ensures (c.field_end-ip_end.result + 1), c.in_ok-port.was)
