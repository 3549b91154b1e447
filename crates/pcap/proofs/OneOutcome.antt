-- The promises of the four calls allow one outcome only. They are the functions' own: `read_record_lem.Reads.Post` is what `read_record` ensures. Assumes
-- nothing.
use Prim.Native.Nat.{ℕ}
use mathlib.Core.Path.{◌≡◌, refl, sym, ap, ◌∙◌}
use mathlib.Core.Bool.{cond}
use lib.Dec.{eqb}
use Rattle.text.proofs.OneOutcome.{One}
use Rattle.pcap.specs.Refusal.{refusal_no}
use Rattle.pcap.specs.Read.{Head, head, no_head, header_shown, Outcome, found, end, refusal, record_shown}
use Rattle.pcap.specs.Write.{wrote, shown}
use Rattle.pcap.specs.Write as w
use Rattle.pcap.specs.declared.CaptureError.{CaptureError}
use Rattle.pcap.specs.declared.CaptureError.TheVariants as error
use Rattle.pcap.specs.declared.Header.{Header}
use Rattle.pcap.specs.declared.Record.{Record}
use Rattle.std.specs.Prelude.{Option, Some, None, Result, Ok, Err}
use Rattle.pcap.proofs.read.read_header as read_header_lem
use Rattle.pcap.proofs.read.read_record as read_record_lem
use Rattle.pcap.proofs.write.write_header as write-header
use Rattle.pcap.proofs.write.write_record as write_record

-- each refusal is found again by its number, and each answer by what it shows
abbrev error_of : ℕ → CaptureError
error_of n = cond (eqb n 19) error.CaptureHeaderInvalid (cond (eqb n 20) error.CaptureRecordInvalid error.CaptureBufferTooSmall)

error_back : (e : CaptureError) → error_of (refusal_no e) ≡ e
error_back error.CaptureHeaderInvalid = refl
error_back error.CaptureRecordInvalid = refl
error_back error.CaptureBufferTooSmall = refl

abbrev header_of : Head → Result Header CaptureError
header_of (head o ours) = Ok (record { order = o; is_ours = ours })
header_of (no_head n) = Err (error_of n)

header-shown : (r : Result Header CaptureError) → header_of (header_shown r) ≡ r
header-shown (Ok h) = refl
header-shown (Err e) = ap Err (error_back e)

abbrev record_of : Outcome → Result (Option Record) CaptureError
record_of (found a b start len past) = Ok (Some (record { seconds = a; microseconds = b; start = start; len = len; next = past }))
record_of end = Ok None
record_of (refusal n) = Err (error_of n)

record_shown_lem : (r : Result (Option Record) CaptureError) → record_of (record_shown r) ≡ r
record_shown_lem (Ok (Some r)) = refl
record_shown_lem (Ok None) = refl
record_shown_lem (Err e) = ap Err (error_back e)

abbrev written_of : w.Outcome → Result ℕ CaptureError
written_of (wrote n) = Ok n
written_of (w.refusal n) = Err (error_of n)

written-shown : (r : Result ℕ CaptureError) → written_of (shown r) ≡ r
written-shown (Ok n) = refl
written-shown (Err e) = ap Err (error_back e)

pub header_injective : (x y : Result Header CaptureError) → header_shown x ≡ header_shown y → x ≡ y
header_injective x y e = sym (header-shown x) ∙ ap header_of e ∙ header-shown y

pub record_injective : (x y : Result (Option Record) CaptureError) → record_shown x ≡ record_shown y → x ≡ y
record_injective x y e = sym (record_shown_lem x) ∙ ap record_of e ∙ record_shown_lem y

pub write_injective : (x y : Result ℕ CaptureError) → shown x ≡ shown y → x ≡ y
write_injective x y e = sym (written-shown x) ∙ ap written_of e ∙ written-shown y

pub one-read_header : One 1 read_header_lem.Kinds.ps read_header_lem.Kinds.r read_header_lem.Reads.Post (λ κs x s. x)
one-read_header κs a x y s t p q = header_injective x y (p ∙ sym q)

pub one-read_record : One 1 read_record_lem.Kinds.ps read_record_lem.Kinds.r read_record_lem.Reads.Post (λ κs x s. x)
one-read_record κs a x y s t p q = record_injective x y (p ∙ sym q)

pub one-write-header : One 1 write-header.Kinds.ps write-header.Kinds.r write-header.Reads.Post (λ κs x s. x) × One 1 write-header.Kinds.ps write-header.Kinds.r write-header.Reads.Post (λ κs x s. s.0.now)
one-write-header = ((λ κs a x y s t p q. write_injective x y (p.answers ∙ sym q.answers)), λ κs a x y s t p q. p.leaves ∙ sym q.leaves)

pub one-write_record : One 2 write_record.Kinds.ps write_record.Kinds.r write_record.Reads.Post (λ κs x s. x) × One 2 write_record.Kinds.ps write_record.Kinds.r write_record.Reads.Post (λ κs x s. s.0.now)
one-write_record = ((λ κs a x y s t p q. write_injective x y (p.answers ∙ sym q.answers)), λ κs a x y s t p q. p.leaves ∙ sym q.leaves)
