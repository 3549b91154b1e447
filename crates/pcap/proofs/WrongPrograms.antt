-- What every program that meets a promise answers to some calls, so that wrong ones do not meet it. The promises are the functions' own:
-- `read_header_lem.Reads.Post` is what `read_header` ensures. Assumes nothing.
use Prim.Native.Nat.{ℕ, ◌<◌}
use mathlib.Core.Path.{◌≡◌, refl, ap, ◌∙◌}
use mathlib.Core.List.{List}
use mathlib.Core.Bool.{true, false}
use native.Mathlib.Omega.{arith}
use contract.Lifetimes.{Lfts}
use denote.Ref.{Bor}
use denote.Triple.Clauses.{AtExit}
use borrow.Fn.Kinds.{Dens, ended_of}
use lib.ListN.{length}
use Rattle.text.specs.Bytes.{hex, part}
use Rattle.pcap.specs.Number.{low_first, value}
use Rattle.pcap.specs.Layout.{spelled}
use Rattle.pcap.specs.Read.{found, record_in, read_record}
use Rattle.pcap.specs.Write.{outcome, header_out}
use Rattle.pcap.specs.declared.ByteOrder.TheVariants.{Little, Big}
use Rattle.pcap.specs.declared.CaptureError.TheVariants as error
use Rattle.pcap.specs.declared.CaptureError.{CaptureError}
use Rattle.pcap.specs.declared.Header.{Header}
use Rattle.pcap.specs.declared.Record.{Record}
use Rattle.std.specs.Prelude.{Option, Some, Result, Ok, Err}
use Rattle.pcap.proofs.WriteLaws.{record_wrong}
use Rattle.pcap.proofs.OneOutcome.{header_injective, record_injective, write_injective}
use Rattle.pcap.proofs.Examples as example
use Rattle.pcap.proofs.read.read_header as read_header_lem
use Rattle.pcap.proofs.read.read_record as read_record_lem
use Rattle.pcap.proofs.write.write_header as write-header
use Rattle.pcap.proofs.write.write_record as write_record

module _ (κs : Lfts 1) (s : Bor (List ℕ)) (x : Result Header CaptureError) (i : AtExit (ended_of 1 read_header_lem.Kinds.ps read_header_lem.Kinds.r) κs) (p : read_header_lem.Reads.Post κs (s, tt) x i) where
  -- a reader of one byte order; one that refuses another zone, or says of any header that it is ours; one that takes any link type
  pub either_order : s.now ≡ hex "A1B2C3D4 0002 0004 00000E10 00000001 0000FFFF 00000093" → x ≡ Ok (record { order = Big; is_ours = false })
  either_order e = header_injective x (Ok (record { order = Big; is_ours = false })) ((rw e at p) ∙ example.others)

  pub our_values : s.now ≡ hex "D4C3B2A1 0200 0400 00000000 00000000 03100000 93000000" → x ≡ Ok (record { order = Little; is_ours = true })
  our_values e = header_injective x (Ok (record { order = Little; is_ours = true })) ((rw e at p) ∙ example.ours)

  pub other_link_type : s.now ≡ hex "D4C3B2A1 0200 0400 00000000 00000000 03100000 01000000" → x ≡ Err error.CaptureHeaderInvalid
  other_link_type e = header_injective x (Err error.CaptureHeaderInvalid) ((rw e at p) ∙ example.ethernet)

-- two records, each with a frame of one byte, and then 15 bytes
abbrev two : List ℕ
two = hex "01000000 02000000 01000000 01000000 41 03000000 04000000 01000000 01000000 42 000000000000000000000000000000"

first_two : (read_record Little two 0 ≡ found 1 2 16 1 17) × (read_record Little two 17 ≡ found 3 4 33 1 34)
unfolding value record_in part
first_two = (refl, refl)

module _ (κs : Lfts 1) (s : Bor (List ℕ)) (x : Result (Option Record) CaptureError) (i : AtExit (ended_of 1 read_record_lem.Kinds.ps read_record_lem.Kinds.r) κs) where
  -- a reader that goes on in the wrong place, as one that adds a byte or forgets the frame; one that reads the first record again
  pub place_past : read_record_lem.Reads.Post κs (Little, (s, (0, tt))) x i → s.now ≡ two
      → x ≡ Ok (Some (record { seconds = 1; microseconds = 2; start = 16; len = 1; next = 17 }))
  place_past p e = record_injective x (Ok (Some (record { seconds = 1; microseconds = 2; start = 16; len = 1; next = 17 }))) ((rw e at p) ∙ first_two.0)

  pub second_record : read_record_lem.Reads.Post κs (Little, (s, (17, tt))) x i → s.now ≡ two
      → x ≡ Ok (Some (record { seconds = 3; microseconds = 4; start = 33; len = 1; next = 34 }))
  second_record p e = record_injective x (Ok (Some (record { seconds = 3; microseconds = 4; start = 33; len = 1; next = 34 }))) ((rw e at p) ∙ first_two.1)

  -- one that takes what is too short for a record for the end; one that looks at one length alone
  pub cut-is-no-end : read_record_lem.Reads.Post κs (Little, (s, (0, tt))) x i → s.now ≡ hex "000000000000000000000000000000" → x ≡ Err error.CaptureRecordInvalid
  unfolding record_in
  cut-is-no-end p e = record_injective x (Err error.CaptureRecordInvalid) (rw e at p)

  pub lengths_agree : read_record_lem.Reads.Post κs (Big, (s, (0, tt))) x i → s.now ≡ hex "00000005 00000000 00000001 00000002 4142" → x ≡ Err error.CaptureRecordInvalid
  unfolding value record_in part
  lengths_agree p e = record_injective x (Err error.CaptureRecordInvalid) (rw e at p)

module _ (κs : Lfts 1) (a : Dens κs write-header.Kinds.ps) (e : AtExit (ended_of 1 write-header.Kinds.ps write-header.Kinds.r) κs) (x : Result ℕ CaptureError)
    (p : write-header.Reads.Post κs a x e) where
  -- a writer of the other byte order, or of a snap length that other tools write, and one that also clears what follows
  pub header-written : a.0.now ≡ hex "00000000 0000 0000 00000000 00000000 00000000 00000000 FF"
      → (x ≡ Ok 24) × (e.0.now ≡ hex "D4C3B2A1 0200 0400 00000000 00000000 03100000 93000000 FF")
  unfolding header_out spelled low_first
  header-written b = (write_injective x (Ok 24) (rw b at p).answers, (rw b at p).leaves)

module _ (κs : Lfts 2) (a : Dens κs write_record.Kinds.ps) (e : AtExit (ended_of 2 write_record.Kinds.ps write_record.Kinds.r) κs) (x : Result ℕ CaptureError)
    (p : write_record.Reads.Post κs a x e) where
  -- a writer that takes a frame which no reader takes back, whatever the room
  pub too_long_lem : 4099 < length a.1.1.1.0.now → x ≡ Err error.CaptureRecordInvalid
  too_long_lem h =
      write_injective x (Err error.CaptureRecordInvalid)
      (p.answers ∙ ap outcome (record_wrong (length a.0.now) a.1.0 a.1.1.0 a.1.1.1.0.now (λ b. h)))

  -- one that looks at the room first
  pub second_before-room : 999999 < a.1.1.0 → x ≡ Err error.CaptureRecordInvalid
  second_before-room h =
      write_injective x (Err error.CaptureRecordInvalid)
      (p.answers ∙ ap outcome (record_wrong (length a.0.now) a.1.0 a.1.1.0 a.1.1.1.0.now (λ b. omega arith)))
