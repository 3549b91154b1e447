-- Laws of answers: what a writer left in its buffer as a line, and a test of every byte of a line.
use Rattle.std.proofs.Common.{◌≡◌, ℕ, Bool, ◌&&◌, List, [], ◌∷◌, ◌++◌, length, drop, refl, ap, Result, Ok, Err}
use Rattle.std.specs.List.{list_all}
use lib.Seq.{take-length, take-append_seam}
use Rattle.text.specs.Bytes.{part, every}
use Rattle.at.specs.Refusal.{OrRefused, good, refused}
use Rattle.at.specs.Written.{answer_to, after}
use Rattle.edm.specs.Command as command
use Rattle.edm.specs.Refusal as edm
use Rattle.edm.specs.declared.EdmPacketError.{EdmPacketError}
use Rattle.writer.specs.Write as writing
use Rattle.writer.specs.declared.EventWriteError.{EventWriteError}
use Rattle.render.specs.Refusal.{refused_line, frame_refused_line}
use Rattle.render.specs.Written.{wrote_line, written_by}
use Rattle.render.specs.Written as render
use Rattle.replay.specs.Reply.{written_line}

-- What was written is at the start of the buffer

wrote_start : (f rest : List ℕ) → wrote_line (f ++ rest) (length f) ≡ wrote_line f (length f)
unfolding part
wrote_start f rest = rw (take-append_seam f rest, take-length f)

pub written_line_lem : (refusal : ℕ → List ℕ) (buf : List ℕ) (w : OrRefused (List ℕ)) (a : OrRefused ℕ) (exit : List ℕ) → a ≡ answer_to w → exit ≡ after buf w
    → render.written_line refusal exit a ≡ written_line refusal w
written_line_lem refusal buf (good s) a exit p q = rw (p, q) (wrote_start s (drop (length s) buf))
written_line_lem refusal buf (refused n) a exit p q = rw p

-- the answer of a writer has the line of what it shows
pub event-written : (target : List ℕ) (r : Result ℕ EventWriteError) → written_by (λ e. refused_line (writing.refusal_no e)) target r ≡ render.written_line refused_line target (writing.shown r)
event-written target (Ok n) = refl
event-written target (Err e) = refl

pub frame-written : (target : List ℕ) (r : Result ℕ EdmPacketError) → written_by (λ e. frame_refused_line (edm.refusal_no e)) target r ≡ render.written_line frame_refused_line target (command.shown r)
frame-written target (Ok n) = refl
frame-written target (Err e) = refl

pub all-every : (test : ℕ → Bool) (s : List ℕ) → list_all test s ≡ every test s
unfolding every
all-every test [] = refl
all-every test (b ∷ s) = ap (λ (k : Bool). test b && k) (all-every test s)
