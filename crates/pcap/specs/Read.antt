-- Reading: the header of a file, and the record at a place.
use Rattle.std.specs.Prelude.{ℕ, ◌+◌, List, Bool, cond, ◌&&◌, eqb, leb, length, drop, Option, Some, None, Result, Ok, Err}
use Rattle.text.specs.Bytes.{part}
use Rattle.pcap.specs.Refusal.{refusal_no}
use Rattle.pcap.specs.Number.{value_of}
use Rattle.pcap.specs.Layout.{header, matches, exactly}
use Rattle.pcap.specs.declared.ByteOrder.{ByteOrder}
use Rattle.pcap.specs.declared.ByteOrder.TheVariants.{Little, Big}
use Rattle.pcap.specs.declared.CaptureError.{CaptureError}
use Rattle.pcap.specs.declared.Header.{Header}
use Rattle.pcap.specs.declared.Record.{Record}

-- the byte order of a file, and whether all values of its header are those that are written; or the number of the refusal
pub data Head : Type 0 where
  head : ByteOrder → Bool → Head
  no_head : ℕ → Head

-- the header in this byte order, or else
abbrev pub head_in : ByteOrder → List ℕ → Head → Head
head_in o s other = cond (matches o s 0 header) (head o (matches o s 0 (exactly header))) other

-- 24 bytes that agree with the header in one byte order, or 19
unfoldable pub read_header : List ℕ → Head
read_header s = cond (leb 24 (length s)) (head_in Little s (head_in Big s (no_head 19))) (no_head 19)

-- seconds, microseconds, the frame's place and length, and the place past it; or the end; or the number of the refusal
pub data Outcome : Type 0 where
  found : ℕ → ℕ → ℕ → ℕ → ℕ → Outcome
  end : Outcome
  refusal : ℕ → Outcome

-- the number of the four bytes at a place
abbrev pub number : ByteOrder → List ℕ → ℕ → ℕ
number o t at = value_of o (part t at 4)

-- the fields of a record that begins here, by their places in its head
abbrev pub seconds : ByteOrder → List ℕ → ℕ
seconds o t = number o t 0

abbrev pub microseconds : ByteOrder → List ℕ → ℕ
microseconds o t = number o t 4

abbrev pub in_file : ByteOrder → List ℕ → ℕ
in_file o t = number o t 8

abbrev pub on_line : ByteOrder → List ℕ → ℕ
on_line o t = number o t 12

-- microseconds of one second, two lengths that agree and are at most 4,099, and no byte missing
abbrev pub sound : ByteOrder → List ℕ → Bool
sound o t =
    leb 16 (length t) && (leb (microseconds o t) 999999 && (eqb (in_file o t) (on_line o t) && (leb (in_file o t) 4099 && leb (16 + in_file o t) (length t))))

-- the record that stands at the place `at`, where the bytes t are left: none left is the end, and a record that is not sound is 20
unfoldable pub record_in : ByteOrder → ℕ → List ℕ → Outcome
record_in o at t =
    cond (eqb (length t) 0) end
    (cond (sound o t) (found (seconds o t) (microseconds o t) (at + 16) (in_file o t) (at + 16 + in_file o t)) (refusal 20))

abbrev pub read_record : ByteOrder → List ℕ → ℕ → Outcome
read_record o s at = record_in o at (drop at s)

-- what the answers show
abbrev pub header_shown : Result Header CaptureError → Head
header_shown (Ok h) = head h.order h.is_ours
header_shown (Err e) = no_head (refusal_no e)

abbrev pub record_shown : Result (Option Record) CaptureError → Outcome
record_shown (Ok (Some r)) = found r.seconds r.microseconds r.start r.len r.next
record_shown (Ok None) = end
record_shown (Err e) = refusal (refusal_no e)
