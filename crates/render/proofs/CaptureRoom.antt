-- How long the lines of a capture are: that of a whole file takes at most 33 bytes for each 16 of the file and 60 for how it ends, and that of a record
-- with its frame two digits for each byte of the frame, its meaning, and 21 bytes more.
use Prim.Native.Nat.{ℕ, zero, suc, ◌+◌, ◌*◌, ◌-◌, ◌≤◌, ◌<◌}
use mathlib.Core.Path.{◌≡◌, refl}
use mathlib.Core.List.{List, ◌++◌}
use native.Mathlib.Omega.{arith}
use lib.ListN.{length, get_or, length-append}
use Rattle.text.specs.Bytes.{bytes, part}
use Rattle.text.specs.Decimal.{decimal}
use Rattle.edm.specs.Frame.{read_frame}
use Rattle.pcap.specs.Read.{Head, head, no_head, read_header, Outcome, found, end, refusal, read_record}
use Rattle.pcap.specs.File.{go_on, run_from, run_at, after_head, read_file}
use Rattle.pcap.specs.declared.ByteOrder.{ByteOrder}
use Rattle.pcap.proofs.ReadLaws.{header_read, found-places}
use Rattle.pcap.proofs.ReadWritten.{found-fits}
use Rattle.render.specs.Words.{hex_of}
use Rattle.render.specs.Refusal.{refused_line}
use Rattle.render.specs.Walk.{place_line}
use Rattle.render.specs.Frame.{frame_line}
use Rattle.render.specs.Capture.{six_digits, time_line, record_line, run_line, meaning_line}
use Rattle.render.proofs.WordLengths.{refused-room, decimal-within, hex-within}
use Rattle.render.proofs.FrameRoom.{frame-room}

abbrev Bytes : List ℕ → Type 0
Bytes s = (i : ℕ) → get_or s i 0 < 256

time-room : (a b : ℕ) → a < 4294967296 → length (time_line a b) ≤ 17
time-room a b h =
    let l = length-append (decimal a ++ bytes ".") (six_digits b) in
    let m = length-append (decimal a) (bytes ".") in
    omega (arith, l, m, decimal-within 9 a (omega arith))

place-room : (p : ℕ) → p < 1000000 → length (place_line p) ≤ 8
place-room p h = omega (arith, decimal-within 5 p h)

record_room : (a b start len : ℕ) → a < 4294967296 → start < 1000000 → len ≤ 4099 → length (record_line a b start len) ≤ 30
record_room a b start len h k l =
    let t = time_line a b in
    let p = place_line start in
    omega (
      arith,
      length-append (t ++ p ++ bytes "+") (decimal len),
      length-append (t ++ p) (bytes "+"),
      length-append t p,
      time-room a b h,
      place-room start k,
      decimal-within 3 len (omega arith),
    )

-- the records from a place on
module _ (o : ByteOrder) (s : List ℕ) (h : Bytes s) (l : length s < 1000000) where
  from-room : (n at : ℕ) → at ≤ length s → 16 * length (run_line (run_from n o s at)) + 33 * at ≤ 33 * length s + 960
  unfolding run_from run_line
  from-room zero at k = omega arith
  from-room (suc n) at k = go (read_record o s at) refl (from-room n)
    where
      go : (x : Outcome) → read_record o s at ≡ x → ((q : ℕ) → q ≤ length s → 16 * length (run_line (run_from n o s q)) + 33 * q ≤ 33 * length s + 960)
          → 16 * length (run_line (go_on s at x (λ q. run_from n o s q))) + 33 * at ≤ 33 * length s + 960
      go (found a b start len past) x ih =
          let p = found-places o s at a b start len past x in
          let f = found-fits o s h at a b start len past x in
          let line = record_line a b start (length (part s start len)) in
          let rest = run_line (run_from n o s past) in
          let j = record_room a b start (length (part s start len)) f.0 (omega (arith, p.1, p.2)) f.2 in
          omega (arith, length-append (line ++ bytes " ; ") rest, length-append line (bytes " ; "), j, p.0, p.1, ih past p.2)
      go end x ih = omega arith
      go (refusal m) x ih = omega (arith, length-append (refused_line m) (place_line at), refused-room m, place-room at (omega arith))

pub file-room : (s : List ℕ) → Bytes s → length s < 1000000 → 16 * length (run_line (read_file s)) ≤ 33 * length s + 960
unfolding read_file run_at run_line
file-room s h l = go (read_header s) refl
  where
    go : (x : Head) → read_header s ≡ x → 16 * length (run_line (after_head s x)) ≤ 33 * length s + 960
    go (head o ours) x = let k = header_read s o ours x in omega (arith, from-room o s h l (length s - 24) 24 k.0)
    go (no_head n) x = omega (arith, length-append (refused_line n) (place_line 0), refused-room n, place-room 0 (omega arith))

pub meaning_room : (a b : ℕ) (f : List ℕ) → a < 4294967296 → Bytes f → length (meaning_line a b f) ≤ 4 * length f + 172
unfolding meaning_line
meaning_room a b f h k =
    let t = time_line a b in
    let x = hex_of f in
    let m = frame_line f (read_frame f) in
    omega (
      arith,
      length-append (t ++ bytes " " ++ x ++ bytes " # ") m,
      length-append (t ++ bytes " " ++ x) (bytes " # "),
      length-append (t ++ bytes " ") x,
      length-append t (bytes " "),
      time-room a b h,
      hex-within f,
      frame-room f k,
    )
