-- The state of the program between two ranges, and what it says of the whole dump.
use Rattle.std.specs.Prelude.{◌≡◌, ℕ, ◌+◌, ◌%◌, ◌^◌, ◌<◌, ◌≤◌, Bool, true, false, cond, List, [], ◌∷◌, ◌++◌, length, drop}
use Rattle.text.specs.Bytes.{part}
use Rattle.lines.specs.Output.{Holds}
use Rattle.lines.specs.declared.output.Out.{Out}
use Rattle.scan.specs.Cut.{Piece, kept, skipped, cut, text, frames, rows}
use Rattle.scan.specs.Window.{decided_places, Reported}
use Rattle.scan.specs.declared.listed.Listed.{Listed}
use Rattle.dump.specs.Total.{is_refused, counted_frame, counted_skipped}
use Rattle.dump.specs.Put.{frame_bytes}
use Rattle.dump.specs.declared.put.Form.{Form}
use Rattle.dump.specs.declared.window.Dumping.{Dumping}

-- a list that begins with the ranges of a window
pub record Lists (dump list : List ℕ) (count : ℕ) : Type 0 where
  pub more : List ℕ
  pub holds : list ≡ rows 0 (cut dump) ++ more
  pub counts : count ≡ length (cut dump)

-- a frame is kept, and this many bytes of the window are reported; only the output is left open
abbrev pub after_kept : Dumping → ℕ → List ℕ → Out → Dumping
after_kept d used frame o = record { held = d.held; place = d.place; used = used; pending = 0; totals = counted_frame d.totals frame; out = o }

-- bytes are skipped
abbrev pub after_skipped : Dumping → ℕ → ℕ → Out → Dumping
after_skipped d used n o = record { held = d.held; place = d.place; used = used; pending = (d.pending + n) % 2 ^ 64; totals = counted_skipped d.totals n; out = o }

-- a range of a window, whose first n bytes are decided: what becomes of the state, and what is put into the output. A frame is put after the skipped bytes before
-- it, with its place in the whole dump; for skipped bytes nothing is put yet
pub record Reports (form : Form) (src : List ℕ) (r : Listed) (n : ℕ) (before : Dumping) (output : List ℕ) (after : Dumping) (exit : List ℕ) : Type 0 where
  pub leads : after ≡ cond r.kept (after_kept before ((r.start + n) % 2 ^ 64) (part src r.start n) after.out) (after_skipped before ((r.start + n) % 2 ^ 64) n after.out)
  pub puts : r.kept ≡ true → Holds output before.out (frame_bytes form ((before.place + r.start) % 2 ^ 64) before.pending (part src r.start n)) after.out exit
  pub waits : r.kept ≡ false → (after.out ≡ before.out) × (exit ≡ output)

-- how many of these frames the reader refuses
abbrev pub refused_in : List (List ℕ) → ℕ
refused_in [] = 0
refused_in (f ∷ fs) = cond (is_refused f) 1 0 + refused_in fs

-- how many bytes are skipped in these ranges, and how many they have in all
abbrev pub skipped_in : List Piece → ℕ
skipped_in [] = 0
skipped_in (kept t ∷ ps) = skipped_in ps
skipped_in (skipped t ∷ ps) = length t + skipped_in ps

abbrev pub size : List Piece → ℕ
size [] = 0
size (p ∷ ps) = length (text p) + size ps

-- the ranges ps of the whole dump were reported, bytes that are skipped are still to be, and `rest` is still to be searched; the counts and the place are right
pub record Stands (whole rest : List ℕ) (d : Dumping) : Type 0 where
  pub ps : List Piece
  pub pending : List ℕ
  pub reported : Reported whole ps pending rest
  pub waits : d.pending ≡ length pending
  pub keeps : d.totals.kept ≡ length (frames ps)
  pub refuses : d.totals.refused ≡ refused_in (frames ps)
  pub skips : d.totals.skipped ≡ skipped_in ps + length pending
  pub stops : d.place + d.used ≡ size ps + length pending

-- what a window does: whatever follows it in the dump, the state before it leads to the state after it. At most 4,098 bytes are left, and none at the end
abbrev pub GoesOn : List ℕ → ℕ → Dumping → Dumping → Type 0
GoesOn src places before after =
    (whole follows : List ℕ) (is_end : Bool) → places ≡ decided_places (length src) is_end → (is_end ≡ true → follows ≡ []) → length whole < 2 ^ 64 → before.used ≡ 0
    → Stands whole (src ++ follows) before → Stands whole (drop after.used src ++ follows) after × (places ≤ after.used)

-- the buffers of the program: a window, a list that has room for the ranges of any, and the output
abbrev pub Buffers : List ℕ → List ℕ → List ℕ → Type 0
Buffers input list output = (length input ≤ 65536) × (56175 ≤ length list) × (131072 ≤ length output)
