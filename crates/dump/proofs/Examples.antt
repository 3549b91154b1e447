-- What is put for ranges, and the totals, by computation. Assumes nothing.
use Rattle.std.proofs.Common.{◌≡◌, [], refl}
use Rattle.text.specs.Bytes.{bytes, hex}
use Rattle.text.specs.Decimal.{decimal, digits_of}
use Rattle.pcap.specs.Number.{low_first}
use Rattle.pcap.specs.Layout.{spelled}
use Rattle.edm.specs.Packet.{identifiers, carried}
use Rattle.edm.specs.Frame.{read_frame}
use Rattle.render.specs.Words.{name_in}
use Rattle.render.specs.Refusal.{refusals, frame_refused_line}
use Rattle.dump.specs.Total.{hundredths, counted_frame, total_line}
use Rattle.dump.specs.Put.{record_at, kept_bytes, skipped_bytes}
use Rattle.dump.specs.declared.put.Form.TheVariants as form

-- a frame that is refused after all, two bytes before it, and none
pub kept_line : kept_bytes form.Lines 9 (hex "AA 00 02 00 72 55") ≡ bytes "kept 9+6 refused PayloadTypeUnknown\n"
unfolding kept_bytes decimal digits_of read_frame identifiers carried frame_refused_line name_in refusals
kept_line = refl

pub skipped_line : skipped_bytes form.Lines 9 2 ≡ bytes "skipped 7+2\n"
unfolding skipped_bytes decimal digits_of
skipped_line = refl

pub no_line : skipped_bytes form.Lines 9 0 ≡ []
unfolding skipped_bytes
no_line = refl

-- a frame at place 2,500,000 is a record of 2.500000; skipped bytes are none
pub kept_record : kept_bytes form.Capture 2500000 (hex "AA 00 02 00 71 55") ≡ hex "02000000 20A10700 06000000 06000000 AA0002007155"
unfolding kept_bytes record_at spelled low_first
kept_record = refl

pub no_record : skipped_bytes form.Capture 9 2 ≡ []
unfolding skipped_bytes
no_record = refl

-- the totals: a share is cut, not rounded, and of nothing it is 0
pub two_frames : total_line (record { kept = 2; refused = 1; skipped = 3 }) 15 ≡ bytes "total: kept 2, 1 of them refused; skipped 3 of 15 bytes (20.00%)\n"
unfolding total_line hundredths decimal digits_of
two_frames = refl

pub two_thirds : total_line (record { kept = 1; refused = 0; skipped = 12 }) 18 ≡ bytes "total: kept 1, 0 of them refused; skipped 12 of 18 bytes (66.66%)\n"
unfolding total_line hundredths decimal digits_of
two_thirds = refl

pub empty : total_line (record { kept = 0; refused = 0; skipped = 0 }) 0 ≡ bytes "total: kept 0, 0 of them refused; skipped 0 of 0 bytes (0.00%)\n"
unfolding total_line hundredths decimal digits_of
empty = refl

pub one_more : counted_frame (record { kept = 2; refused = 1; skipped = 3 }) (hex "AA 00 02 00 72 55") ≡ record { kept = 3; refused = 2; skipped = 3 }
unfolding counted_frame read_frame identifiers carried
one_more = refl
