-- A frame's line, printed at the start of a buffer with room, is what the program prints. Assumes nothing.
use Prim.Native.Nat.{ℕ, ◌+◌, ◌≤◌, ◌<◌}
use mathlib.Core.Path.{◌≡◌, refl}
use mathlib.Core.List.{List}
use native.Mathlib.Omega.{arith}
use lib.ListN.{length, take, drop, get_or, length-append, length-take}
use lib.Seq.{take_at}
use Rattle.text.specs.Bytes.{bytes}
use Rattle.text.specs.Put.{placed}
use Rattle.edm.specs.Frame.{read_frame}
use Rattle.render.specs.Print.{Prints}
use Rattle.render.specs.Frame.{frame_line}
use Rattle.render.proofs.PrintLaws.{prints_then, prints-whole}
use Rattle.render.proofs.FrameRoom.{bytes_take, frame-room}
use Rattle.judge.specs.Judgement.{judgement}

-- what is printed at 0, in a buffer with room, is the start of the buffer
pub printed_first : {b : List ℕ} {ds : List ℕ} {r : ℕ} {e : List ℕ} → Prints b 0 ds r e → length ds ≤ length b → take r e ≡ ds
unfolding placed
printed_first {b} {ds} p h =
    let room : 0 + length ds ≤ length b = omega arith in
    let n : 0 + length ds ≡ length ds = omega arith in
    let whole = prints-whole p room in
    rw (whole.0, whole.1, n) (take_at ds (drop (length ds) b) (length ds) refl)

-- two digits a byte, 150 bytes of names, numbers and spaces, and the line end
line_room : (input : List ℕ) → ((i : ℕ) → get_or input i 0 < 256) → length (judgement input) ≤ 8351
unfolding judgement
line_room input h =
    let s = take 4100 input in
    let room = frame-room s (bytes_take 4100 input h) in
    omega (arith, room, length-take 4100 input, length-append (frame_line s (read_frame s)) (bytes "\n"))

pub judged : {b c e : List ℕ} {q r : ℕ} (input : List ℕ) → ((i : ℕ) → get_or input i 0 < 256) → 8351 ≤ length b
    → Prints b 0 (frame_line (take 4100 input) (read_frame (take 4100 input))) q c → Prints c q (bytes "\n") r e → take r e ≡ judgement input
unfolding judgement
judged {b} input h room first last =
    let fits : length (judgement input) ≤ length b = omega (arith, line_room input h) in
    printed_first (prints_then first last) fits
