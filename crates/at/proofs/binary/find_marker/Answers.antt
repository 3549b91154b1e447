use mathlib.Core.Path.{◌≡◌, sym, ◌∙◌}
use native.Mathlib.Omega.{arith}
use Prim.Native.Nat.{◌≤◌}
use Rattle.std.specs.Prelude.{Some}
use Rattle.text.specs.Find.{first_from}
use Rattle.text.proofs.FindLaws.{from_at}
use Rattle.at.specs.Binary.{marker}
use Rattle.at.proofs.BinaryLaws.{marker-at, marker-nowhere}
use Rattle.at.proofs.binary.find_marker.Goals as goal
use Rattle.at.proofs.binary.find_marker.Goals.{In-Some}

-- `binary::find_marker` meets its contract: the first byte 01, with UTF-8 before it. Assumes nothing.
-- what was found, and that it is not before the place where the search began
found : (c : In-Some) → let a = c.args in first_from marker a.s.now a.start ≡ Some c.in-Some.i
found c = sym c.first_byte.ensures ∙ c.in-Some.is

later : (c : In-Some) → c.args.start ≤ c.in-Some.i
later c =
    let a = c.args in
    omega (arith, (from_at marker a.s.now a.start c.in-Some.i (found c)).0)

pub returns-in_default : goal.returns-in_default
returns-in_default c =
    let a = c.args in
    sym (marker-nowhere a.s.now a.start (sym c.first_byte.ensures ∙ c.in_default.is))

pub overflow_sub-i : goal.overflow_sub-i
overflow_sub-i c = later c

pub overflow_sub-result : goal.overflow_sub-result
overflow_sub-result c = later (goal.at.overflow_sub-result c).In-Some

pub returns-then-is_utf8 : goal.returns-then-is_utf8
returns-then-is_utf8 c =
    let a = c.args in
    rw (marker-at a.s.now a.start (found (goal.at.returns-then-is_utf8 c).In-Some), ← c.part.ensures, ← c.is_utf8.ensures, c.if-is_utf8.true)

pub returns-else-is_utf8 : goal.returns-else-is_utf8
returns-else-is_utf8 c =
    let a = c.args in
    rw (marker-at a.s.now a.start (found (goal.at.returns-else-is_utf8 c).In-Some), ← c.part.ensures, ← c.is_utf8.ensures, c.if-is_utf8.false)
