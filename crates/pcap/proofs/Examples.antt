-- Worked examples, by computation. Assumes nothing.
use mathlib.Core.Path.{◌≡◌, refl}
use mathlib.Core.List.{[], ◌∷◌}
use mathlib.Core.Bool.{true, false}
use Rattle.text.specs.Bytes.{hex, part}
use Rattle.pcap.specs.Number.{low_first, value}
use Rattle.pcap.specs.Layout.{spelled, matches}
use Rattle.pcap.specs.Read.{head, no_head, read_header, refusal, record_in}
use Rattle.pcap.specs.Write.{bytes, refused, header_out, record_out}
use Rattle.pcap.specs.File.{entry, records, file, record_then, then_end, then_refused, run_from, run_at, read_file}
use Rattle.pcap.specs.declared.ByteOrder.TheVariants.{Little, Big}

-- one record: 1.000002, the frame 41 42
pub little : file Little (entry 1 2 (hex "4142") ∷ []) ≡ hex "D4C3B2A1 0200 0400 00000000 00000000 03100000 93000000 01000000 02000000 02000000 02000000 4142"
unfolding spelled low_first records
little = refl

pub big : file Big (entry 1 2 (hex "4142") ∷ []) ≡ hex "A1B2C3D4 0002 0004 00000000 00000000 00001003 00000093 00000001 00000002 00000002 00000002 4142"
unfolding spelled low_first records
big = refl

-- read back: the frame is at byte 40
pub read_big : read_file (hex "A1B2C3D4 0002 0004 00000000 00000000 00001003 00000093 00000001 00000002 00000002 00000002 4142") ≡ record_then (entry 1 2 (hex "4142")) 40 then_end
unfolding read_header matches value record_in run_from run_at read_file part
read_big = refl

-- our values in the header, and another zone, accuracy and snap length
pub ours : read_header (hex "D4C3B2A1 0200 0400 00000000 00000000 03100000 93000000") ≡ head Little true
unfolding read_header matches value part
ours = refl

pub others : read_header (hex "A1B2C3D4 0002 0004 00000E10 00000001 0000FFFF 00000093") ≡ head Big false
unfolding read_header matches value part
others = refl

-- 23 bytes; nanoseconds by their magic; version 2.3; link type 1
pub short : read_file (hex "D4C3B2A1 0200 0400 00000000 00000000 03100000 930000") ≡ then_refused 19 0
unfolding read_header matches value read_file part
short = refl

pub nanoseconds : read_header (hex "4D3CB2A1 0200 0400 00000000 00000000 03100000 93000000") ≡ no_head 19
unfolding read_header matches value part
nanoseconds = refl

pub version : read_header (hex "D4C3B2A1 0200 0300 00000000 00000000 03100000 93000000") ≡ no_head 19
unfolding read_header matches value part
version = refl

pub ethernet : read_header (hex "D4C3B2A1 0200 0400 00000000 00000000 03100000 01000000") ≡ no_head 19
unfolding read_header matches value part
ethernet = refl

-- an empty frame, then a record that is cut: it begins at byte 40
pub cut : read_file (hex "D4C3B2A1 0200 0400 00000000 00000000 03100000 93000000 05000000 3F420F00 00000000 00000000 01") ≡ record_then (entry 5 999999 []) 40 (then_refused 20 40)
unfolding read_header matches value record_in run_from run_at read_file part
cut = refl

-- a whole second of microseconds; lengths that differ; a frame of 4,100 bytes; a frame that lacks a byte
pub second : record_in Little 24 (hex "05000000 40420F00 00000000 00000000") ≡ refusal 20
unfolding value record_in part
second = refl

pub lengths : record_in Big 24 (hex "00000005 00000000 00000001 00000002 4142") ≡ refusal 20
unfolding value record_in part
lengths = refl

pub long : record_in Big 24 (hex "00000005 00000000 00001004 00001004") ≡ refusal 20
unfolding value record_in part
long = refl

pub lacking : record_in Big 24 (hex "00000005 00000000 00000002 00000002 41") ≡ refusal 20
unfolding value record_in part
lacking = refl

-- written into 17 bytes, and into 16; with a whole second of microseconds, which is refused before the room is looked at
pub fits : record_out 17 1 2 (hex "41") ≡ bytes (hex "01000000 02000000 01000000 01000000 41")
unfolding record_out spelled low_first
fits = refl

pub full : (record_out 16 1 2 (hex "41") ≡ refused 21) × (header_out 23 ≡ refused 21) × (record_out 0 1 1000000 (hex "41") ≡ refused 20)
unfolding record_out header_out spelled low_first
full = (refl, refl, refl)
