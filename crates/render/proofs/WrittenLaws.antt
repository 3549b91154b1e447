-- The line of a writer's answer is that of what it says.
use Prim.Native.Nat.{ℕ}
use mathlib.Core.Path.{◌≡◌, refl}
use mathlib.Core.List.{List}
use Rattle.std.specs.Prelude.{Result, Ok, Err}
use Rattle.edm.specs.Command as frames
use Rattle.edm.specs.Refusal as of_frame
use Rattle.edm.specs.declared.EdmPacketError.{EdmPacketError}
use Rattle.writer.specs.Write as events
use Rattle.writer.specs.declared.EventWriteError.{EventWriteError}
use Rattle.render.specs.Refusal.{refused_line, frame_refused_line}
use Rattle.render.specs.Written.{written_line, written_by}

pub written_frame : (target : List ℕ) (a : Result ℕ EdmPacketError)
    → written_by (λ e. frame_refused_line (of_frame.refusal_no e)) target a ≡ written_line frame_refused_line target (frames.shown a)
written_frame target (Ok n) = refl
written_frame target (Err e) = refl

pub written_event : (target : List ℕ) (a : Result ℕ EventWriteError)
    → written_by (λ e. refused_line (events.refusal_no e)) target a ≡ written_line refused_line target (events.shown a)
written_event target (Ok n) = refl
written_event target (Err e) = refl
