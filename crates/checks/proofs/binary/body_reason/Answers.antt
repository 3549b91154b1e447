use Prim.Native.Nat.{ℕ, ◌+◌, ◌<◌, ◌≤◌}
use mathlib.Core.Path.{◌≡◌, sym, ap, ◌∙◌}
use lib.ListN.{length, take, drop}
use lib.Seq.{length-take-le}
use Rattle.text.specs.Find.{first_of}
use Rattle.text.specs.Utf8.{valid_up_to}
use Rattle.at.specs.Binary.{marker}
use Rattle.checks.proofs.PlaceLaws.{front_text, front_fields}
use mathlib.Core.Path.{sym, ◌∙◌}
use native.Mathlib.Omega.{arith}
use Rattle.text.proofs.BytesLaws.{part-rest}
use Rattle.checks.proofs.Utf8Bound.{valid_le}
use Rattle.checks.proofs.StartLaws.{rest-length, found_first, found_nowhere, part_front}
use Rattle.checks.proofs.ReasonLaws.{eleven, twelve, not_eleven, not_twelve, unmarked, body-not-utf8, in_data, in_fields}
use Rattle.checks.proofs.binary.body_reason.Goals as goal
use Rattle.checks.proofs.binary.body_reason.Goals.{In-Some}

-- the marker: where it stands, and that it is one of the bytes
marked : (c : In-Some) → let t = c.part-t.result.now in (c.in-Some.m ≡ first_of marker t) × (first_of marker t < length t)
marked c = found_first _ _ (sym c.first_byte.ensures ∙ c.in-Some.is)

pub returns-in_default : goal.returns-in_default
returns-in_default c = let e = c.part-t.ensures ∙ part-rest _ _ in
    rw (c.shown_at.ensures, ← e) (unmarked _ _ _ (found_nowhere _ _ (sym c.first_byte.ensures ∙ c.in_default.is)))

pub overflow_add-start : goal.overflow_add-start
overflow_add-start c = let m = marked (goal.at.overflow_add-start c).In-Some in
    let k : length c.part.result.now ≡ c.in-Some.m = ap length (c.part.ensures ∙ part_front _ _) ∙ length-take-le _ _ (omega (arith, m.0, m.1)) in
    omega (arith, rest-length _ _ _ c.part-t.ensures, c.valid_up_to.ensures, valid_le c.part.result.now, k, m.0, m.1)

pub returns-in-Utf8DecodeFailed : goal.returns-in-Utf8DecodeFailed
returns-in-Utf8DecodeFailed c = let e = c.part-t.ensures ∙ part-rest _ _ in
    let m = marked (goal.at.returns-in-Utf8DecodeFailed c).In-Some in
    let v = c.valid_up_to.ensures ∙ ap valid_up_to (c.part.ensures ∙ part_front _ _ ∙ ap (λ (k : ℕ). take k c.part-t.result.now) m.0) in
    rw (c.shown_at-in-Utf8DecodeFailed.ensures, ← e, v) (body-not-utf8 _ _ _ m.1 (eleven _ c.in-Utf8DecodeFailed.is))

pub overflow_add-m : goal.overflow_add-m
overflow_add-m c = let m = marked (goal.at.overflow_add-m c).In-Some in omega (arith, rest-length _ _ _ c.part-t.ensures, m.0, m.1)

pub returns-in-FramingDecodeFailed : goal.returns-in-FramingDecodeFailed
returns-in-FramingDecodeFailed c = let e = c.part-t.ensures ∙ part-rest _ _ in
    let m = marked (goal.at.returns-in-FramingDecodeFailed c).In-Some in
    let d = c.part-in-FramingDecodeFailed.ensures ∙ part-rest _ _ ∙ ap (λ (k : ℕ). drop (k + 1) c.part-t.result.now) m.0 in
    c.data_reason.ensures _ ∙ rw (← e, d) (in_data _ _ _ m.1 (twelve _ c.in-FramingDecodeFailed.is))

pub overflow_add-start-in_default-e : goal.overflow_add-start-in_default-e
overflow_add-start-in_default-e c = let m = marked (goal.at.overflow_add-start-in_default-e c).In-Some in omega (arith, rest-length _ _ _ c.part-t.ensures, m.0, m.1)

pub returns-in_default-e : goal.returns-in_default-e
returns-in_default-e c = let e = c.part-t.ensures ∙ part-rest _ _ in
    let m = marked (goal.at.returns-in_default-e c).In-Some in
    let h : c.args.start + c.in-Some.m ≤ length c.args.s.now = omega (arith, rest-length _ _ _ c.part-t.ensures, m.0, m.1) in
    let t = front_text _ _ _ _ h c.part-in_default-e.ensures in
    let f = front_fields _ _ _ _ h c.part-in_default-e.ensures in
    c.text_reason.ensures
    ∙ rw (t, f, ← e, m.0) (in_fields _ _ _ m.1 (not_eleven _ c.in_default-e.not-Utf8DecodeFailed) (not_twelve _ c.in_default-e.not-FramingDecodeFailed))
