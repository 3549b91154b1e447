-- The promises of the five calls allow one outcome only: the same answer, and for `scan` the same list afterwards. They are the functions' own:
-- `scan.Reads.Post` is what `scan` ensures. Assumes nothing.
use mathlib.Core.Path.{◌≡◌, refl, sym, ap, ◌∙◌}
use mathlib.Core.Bool.{cond}
use lib.Dec.{eqb}
use Rattle.text.proofs.OneOutcome.{One}
use Rattle.scan.specs.Scan.{Outcome, ranges, refusal, shown}
use Rattle.scan.specs.declared.ScanError.TheVariants as refused
use Rattle.scan.specs.declared.ScanError.{ScanError}
use Rattle.std.specs.Prelude.{ℕ, Result, Ok, Err}
use Rattle.scan.proofs.scan as scan
use Rattle.scan.proofs.listed.range_at as range_at
use Rattle.scan.proofs.listed.next_kept as next-kept
use Rattle.scan.proofs.window.decided_places as decided_places_lem
use Rattle.scan.proofs.window.decided_bytes as decided_bytes_lem

-- each answer is found again by what it shows
abbrev answer_of : Outcome → Result ℕ ScanError
answer_of (ranges n) = Ok n
answer_of (refusal n) = Err (cond (eqb n 22) refused.RangeListFull refused.DumpTooLong)

answer-shown : (r : Result ℕ ScanError) → answer_of (shown r) ≡ r
answer-shown (Ok n) = refl
answer-shown (Err refused.RangeListFull) = refl
answer-shown (Err refused.DumpTooLong) = refl

pub answer_injective : (x y : Result ℕ ScanError) → shown x ≡ shown y → x ≡ y
answer_injective x y e = sym (answer-shown x) ∙ ap answer_of e ∙ answer-shown y

pub one_scan : One 2 scan.Kinds.ps scan.Kinds.r scan.Reads.Post (λ κs x s. x) × One 2 scan.Kinds.ps scan.Kinds.r scan.Reads.Post (λ κs x s. s.1.0.now)
one_scan = (
  (λ κs a x y s t p q. answer_injective x y (p.answers ∙ sym q.answers)),
  λ κs a x y s t p q. p.leaves ∙ sym q.leaves,
)

pub one_range_at : One 1 range_at.Kinds.ps range_at.Kinds.r range_at.Reads.Post (λ κs x s. x)
one_range_at κs a x y s t p q = p ∙ sym q

pub one-next_kept : One 1 next-kept.Kinds.ps next-kept.Kinds.r next-kept.Reads.Post (λ κs x s. x)
one-next_kept κs a x y s t p q = p ∙ sym q

pub one-decided_places : One 0 decided_places_lem.Kinds.ps decided_places_lem.Kinds.r decided_places_lem.Reads.Post (λ κs x s. x)
one-decided_places κs a x y s t p q = p ∙ sym q

pub one-decided_bytes : One 0 decided_bytes_lem.Kinds.ps decided_bytes_lem.Kinds.r decided_bytes_lem.Reads.Post (λ κs x s. x)
one-decided_bytes κs a x y s t p q = p ∙ sym q
