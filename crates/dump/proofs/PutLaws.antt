-- Laws of what is put for a range: the record of a frame, and how long the longest is. Assumes nothing.
use Rattle.std.proofs.Common.{◌≡◌, ℕ, ◌+◌, ◌-◌, ◌*◌, ◌/◌, ◌%◌, ◌^◌, ◌<◌, ◌≤◌, Bool, true, false, cond, eqb, leb, List, [], ◌∷◌, ◌++◌, length, get_or, take, drop, sym, refl, ap, ◌∙◌, div-le_self, arith, length-append, take_at, eq-eqb, leb-false, leb-true}
use Prim.Native.Char.{code}
use Rattle.text.specs.Bytes.{bytes, part}
use Rattle.text.specs.Decimal.{decimal}
use Rattle.edm.specs.Frame.{read_frame}
use Rattle.pcap.specs.Refusal.{refusal_no}
use Rattle.pcap.specs.Layout.{record_bytes}
use Rattle.pcap.specs.Write.{record_out, wrote, refusal, outcome, after, Writes}
use Rattle.pcap.specs.Write as write
use Rattle.pcap.specs.declared.ByteOrder.TheVariants.{Little}
use Rattle.pcap.specs.declared.CaptureError.{CaptureError}
use Rattle.std.specs.Prelude.{Result, Ok, Err, is_err}
use Rattle.edm.specs.Packet.{shown}
use Rattle.edm.specs.declared.EdmPacket.{EdmPacket}
use Rattle.edm.specs.declared.EdmPacketError.{EdmPacketError}
use Rattle.pcap.proofs.WriteLaws.{head_list_lem, record_wrong, record_fits}
use Rattle.pcap.proofs.WrittenRead.{record_length}
use Rattle.render.specs.Frame.{frame_line}
use Rattle.render.specs.Range.{range_line}
use Rattle.render.specs.Capture.{one_digit}
use Rattle.render.proofs.WordLengths.{decimal-within}
use Rattle.render.proofs.RangeRoom.{range_room, meaning_room}
use Rattle.dump.specs.Total.{refuses, hundredths, percent_line, frames_line, total_line}
use Rattle.dump.specs.Put.{record_at, kept_bytes, skipped_bytes, total_bytes}
use Rattle.dump.specs.declared.total.Totals.{Totals}
use Rattle.dump.specs.declared.put.Form.{Form}
use Rattle.dump.specs.declared.put.Form.TheVariants as form

-- a record in a buffer that has room for the longest
module _ (place : ℕ) (f buf exit : List ℕ) (room : length buf ≡ 4115) where
  abbrev seconds : ℕ
  seconds = place / 1000000 % 4294967296

  abbrev microseconds : ℕ
  microseconds = place % 1000000

  fits : length f ≤ 4099 → record_out (length buf) seconds microseconds f ≡ write.bytes (record_bytes Little seconds microseconds f)
  fits k = record_fits (length buf) seconds microseconds f (omega arith) k (omega arith) ∙ ap (λ (s : List ℕ). write.bytes (s ++ f)) (sym (head_list_lem seconds microseconds (length f)))

  pub record_put : (n : ℕ) → Writes buf (record_out (length buf) seconds microseconds f) (Ok n) exit → part exit 0 n ≡ record_at place f
  unfolding record_at part
  record_put n w = go (leb (length f) 4099) refl
    where
      go : (k : Bool) → leb (length f) 4099 ≡ k → take n (drop 0 exit) ≡ cond k (record_bytes Little seconds microseconds f) []
      go true e =
          let x = fits (leb-true (length f) 4099 e) in
          let a : wrote n ≡ wrote (length (record_bytes Little seconds microseconds f)) = w.answers ∙ ap outcome x in
          let l : n ≡ length (record_bytes Little seconds microseconds f) = cc in
          let s = w.leaves ∙ ap (after buf) x in
          rw s (take_at (record_bytes Little seconds microseconds f) (drop (length (record_bytes Little seconds microseconds f)) buf) n (sym l))
      go false e =
          let x = record_wrong (length buf) seconds microseconds f (λ b. leb-false (length f) 4099 e) in
          let a : wrote n ≡ refusal 20 = w.answers ∙ ap outcome x in
          absurd (let z : ◌≡◌ {A = ℕ} 0 1 = cc in omega arith)

  pub record_unput : (e : CaptureError) → Writes buf (record_out (length buf) seconds microseconds f) (Err e) exit → record_at place f ≡ []
  unfolding record_at
  record_unput x w = go (leb (length f) 4099) refl
    where
      go : (k : Bool) → leb (length f) 4099 ≡ k → cond k (record_bytes Little seconds microseconds f) [] ≡ []
      go true e =
          let a : refusal (refusal_no x) ≡ wrote (length (record_bytes Little seconds microseconds f)) = w.answers ∙ ap outcome (fits (leb-true (length f) 4099 e)) in
          absurd (let z : ◌≡◌ {A = ℕ} 0 1 = cc in omega arith)
      go false e = refl

-- a frame, and the skipped bytes before it, take up at most 8,449 bytes
record_room : (place : ℕ) (f : List ℕ) → length (record_at place f) ≤ 4115
unfolding record_at
record_room place f = go (leb (length f) 4099) refl
  where
    go : (k : Bool) → leb (length f) 4099 ≡ k → length (cond k (record_bytes Little (place / 1000000 % 4294967296) (place % 1000000) f) []) ≤ 4115
    go true e = omega (arith, record_length Little (place / 1000000 % 4294967296) (place % 1000000) f, leb-true (length f) 4099 e)
    go false e = omega arith

kept-room : (x : Form) (place : ℕ) (f : List ℕ) → place < 10 ^ 20 → length f ≤ 4099 → ((i : ℕ) → get_or f i 0 < 256) → length (kept_bytes x place f) ≤ 8399
unfolding kept_bytes
kept-room form.Lines place f h k b =
    let r = range_line (record { start = place; len = length f; kept = true }) in
    let m = frame_line f (read_frame f) in
    omega (arith, length-append (r ++ bytes " " ++ m) (bytes "\n"), meaning_room (record { start = place; len = length f; kept = true }) f h (omega arith) b)
kept-room form.Capture place f h k b = omega (arith, record_room place f)

skipped_room : (x : Form) (end len : ℕ) → end < 10 ^ 20 → len < 10 ^ 20 → length (skipped_bytes x end len) ≤ 50
unfolding skipped_bytes
skipped_room form.Lines end len h k = go (eqb len 0)
  where
    go : (t : Bool) → length (cond t [] (range_line (record { start = end - len; len = len; kept = false }) ++ bytes "\n")) ≤ 50
    go true = omega arith
    go false =
        omega (arith, length-append (range_line (record { start = end - len; len = len; kept = false })) (bytes "\n"), range_room 19 (record { start = end - len; len = len; kept = false }) (omega arith) k)
skipped_room form.Capture end len h k = omega arith

pub frame-room : (x : Form) (place len : ℕ) (f : List ℕ) → place < 10 ^ 20 → len < 10 ^ 20 → length f ≤ 4099 → ((i : ℕ) → get_or f i 0 < 256)
    → length (skipped_bytes x place len ++ kept_bytes x place f) ≤ 8449
frame-room x place len f h k l b =
    omega (arith, length-append (skipped_bytes x place len) (kept_bytes x place f), skipped_room x place len h k, kept-room x place f h l b)

pub skipped_nothing : (x : Form) (end len : ℕ) → len ≡ 0 → skipped_bytes x end len ≡ []
unfolding skipped_bytes
skipped_nothing form.Lines end len e = rw (eq-eqb len 0 e)
skipped_nothing form.Capture end len e = refl

-- the end of a dump takes up at most 208 bytes
share_few : (part whole : ℕ) → part < 2 ^ 64 → hundredths part whole < 10 ^ 20
unfolding hundredths
share_few part whole h = go (eqb whole 0) (leb part 1844674407370955) refl
  where
    go : (z k : Bool) → leb part 1844674407370955 ≡ k → cond z 0 (cond k (part * 10000 / whole) (part / (whole / 10000 + 1))) < 10 ^ 20
    go true k e = omega arith
    go false true e = omega (arith, leb-true part 1844674407370955 e, div-le_self (part * 10000) whole)
    go false false e = omega (arith, div-le_self part (whole / 10000 + 1))

percent_room : (n : ℕ) → n < 10 ^ 20 → length (percent_line n) ≤ 24
percent_room n h = omega (arith, length-append (decimal (n / 100)) (code "." ∷ one_digit (n / 10 % 10) ∷ one_digit (n % 10) ∷ code "%" ∷ []), decimal-within 19 (n / 100) (omega (arith, div-le_self n 100)))

frames-room : (t : Totals) → t.kept < 2 ^ 64 → t.refused < 2 ^ 64 → length (frames_line t) ≤ 80
frames-room t k r =
    let a = bytes "total: kept " in
    let b = decimal t.kept in
    let d = bytes ", " in
    let e = decimal t.refused in
    omega (
      arith,
      length-append (a ++ b ++ d ++ e) (bytes " of them refused; skipped "),
      length-append (a ++ b ++ d) e,
      length-append (a ++ b) d,
      length-append a b,
      decimal-within 19 t.kept (omega arith),
      decimal-within 19 t.refused (omega arith),
    )

total_room : (t : Totals) (size : ℕ) → t.kept < 2 ^ 64 → t.refused < 2 ^ 64 → t.skipped < 2 ^ 64 → size < 2 ^ 64 → length (total_line t size) ≤ 158
unfolding total_line
total_room t size k r s h =
    let a = frames_line t in
    let b = decimal t.skipped in
    let d = bytes " of " in
    let e = decimal size in
    let f = bytes " bytes (" in
    let g = percent_line (hundredths t.skipped size) in
    omega (
      arith,
      length-append (a ++ b ++ d ++ e ++ f ++ g) (bytes ")\n"),
      length-append (a ++ b ++ d ++ e ++ f) g,
      length-append (a ++ b ++ d ++ e) f,
      length-append (a ++ b ++ d) e,
      length-append (a ++ b) d,
      length-append a b,
      frames-room t k r,
      decimal-within 19 t.skipped (omega arith),
      decimal-within 19 size (omega arith),
      percent_room (hundredths t.skipped size) (share_few t.skipped size s),
    )

pub end-room : (x : Form) (end len : ℕ) (t : Totals) → t.kept < 2 ^ 64 → t.refused < 2 ^ 64 → t.skipped < 2 ^ 64 → end < 2 ^ 64 → len < 2 ^ 64
    → length (skipped_bytes x end len ++ total_bytes x t end) ≤ 208
unfolding total_bytes
end-room form.Lines end len t k r s h l =
    omega (arith, length-append (skipped_bytes form.Lines end len) (total_line t end), skipped_room form.Lines end len (omega arith) (omega arith), total_room t end k r s h)
end-room form.Capture end len t k r s h l = omega (arith, length-append (skipped_bytes form.Capture end len) [], skipped_room form.Capture end len (omega arith) (omega arith))

-- what the reader refuses
pub err-refuses : (r : Result EdmPacket EdmPacketError) → is_err r ≡ refuses (shown r)
err-refuses (Ok p) = refl
err-refuses (Err e) = refl
