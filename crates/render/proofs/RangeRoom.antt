-- How long the lines of a dump are: those of the ranges of one call take up at most 411,951 bytes, and that of a range with what its frame means two for each
-- byte of the frame and 200 more.
use Prim.Native.Nat.{ℕ, suc, ◌+◌, ◌*◌, ◌^◌, ◌≤◌, ◌<◌}
use mathlib.Core.Path.{◌≡◌, refl}
use mathlib.Core.List.{List, [], ◌∷◌, ◌++◌}
use mathlib.Core.Bool.{Bool, true, false, cond}
use native.Mathlib.Omega.{arith}
use lib.Dec.{eqb, ltb, leb}
use lib.ListN.{length, get_or, length-append}
use borrow.Author.Tests.{ltb-false}
use Rattle.text.specs.Bytes.{bytes}
use Rattle.text.specs.Decimal.{decimal}
use Rattle.edm.specs.Frame.{read_frame}
use Rattle.scan.specs.Cut.{Piece, cut, text, mark, rows}
use Rattle.scan.specs.Scan.{scanned, listed, refuse}
use Rattle.scan.specs.declared.listed.Listed.{Listed}
use Rattle.scan.proofs.Ranges.{joined, covers}
use Rattle.scan.proofs.Room.{few-ranges}
use Rattle.render.specs.Frame.{frame_line}
use Rattle.render.specs.Range.{mark_word, range_line, piece_line, more_line, ranges_line, scan_line}
use Rattle.render.proofs.WordLengths.{refused-room, decimal-within}
use Rattle.render.proofs.FrameRoom.{frame-room}

mark-room : (kept : Bool) → length (mark_word kept) ≤ 8
mark-room true = omega arith
mark-room false = omega arith

-- numbers of so many digits
pub range_room : (k : ℕ) (r : Listed) → r.start < 10 ^ suc k → r.len < 10 ^ suc k → length (range_line r) ≤ 2 * k + 11
range_room k r h l =
    let m = mark_word r.kept in
    let s = decimal r.start in
    omega (
      arith,
      length-append (m ++ s ++ bytes "+") (decimal r.len),
      length-append (m ++ s) (bytes "+"),
      length-append m s,
      mark-room r.kept,
      decimal-within k r.start h,
      decimal-within k r.len l,
    )

more_room : (at : ℕ) (ps : List Piece) → at + length (joined ps) ≤ 65536 → length (more_line at ps) ≤ 22 * length ps
unfolding more_line
more_room at [] h = omega arith
more_room at (p ∷ ps) h =
    let j = length-append (text p) (joined ps) in
    let line = piece_line at p in
    let rest = more_line (at + length (text p)) ps in
    omega (
      arith,
      length-append (bytes " ; " ++ line) rest,
      length-append (bytes " ; ") line,
      range_room 4 (record { start = at; len = length (text p); kept = eqb (mark p) 1 }) (omega arith) (omega arith),
      more_room (at + length (text p)) ps (omega arith),
    )

ranges-room : (ps : List Piece) → length (joined ps) ≤ 65536 → length (ranges_line ps) ≤ 22 * length ps + 1
ranges-room [] h = omega arith
ranges-room (p ∷ ps) h =
    let j = length-append (text p) (joined ps) in
    omega (
      arith,
      length-append (piece_line 0 p) (more_line (length (text p)) ps),
      range_room 4 (record { start = 0; len = length (text p); kept = eqb (mark p) 1 }) (omega arith) (omega arith),
      more_room (length (text p)) ps (omega arith),
    )

pub scan_room : (s : List ℕ) (room : ℕ) → length (scan_line (scanned s room)) ≤ 411951
unfolding scanned
scan_room s room = go (ltb 65536 (length s)) (leb (length (rows 0 (cut s))) room) refl
  where
    go : (long fits : Bool) → ltb 65536 (length s) ≡ long → length (scan_line (cond long (refuse 23) (cond fits (listed (cut s)) (refuse 22)))) ≤ 411951
    go true fits e = omega (arith, refused-room 23)
    go false true e =
        let c : length (joined (cut s)) ≡ length s = rw (covers s) refl in
        let l = ltb-false 65536 (length s) e in
        omega (arith, few-ranges s, ranges-room (cut s) (omega arith))
    go false false e = omega (arith, refused-room 22)

pub meaning_room : (r : Listed) (f : List ℕ) → r.start < 10 ^ 20 → r.len < 10 ^ 20 → ((i : ℕ) → get_or f i 0 < 256)
    → length (range_line r ++ bytes " " ++ frame_line f (read_frame f)) ≤ 2 * length f + 200
meaning_room r f h l b =
    omega (
      arith,
      length-append (range_line r ++ bytes " ") (frame_line f (read_frame f)),
      length-append (range_line r) (bytes " "),
      range_room 19 r h l,
      frame-room f b,
    )
