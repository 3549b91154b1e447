-- Each public promise allows one outcome only: two outcomes that meet it at the same arguments agree in the place that is answered and in every byte
-- of the lent buffer. The promises are the functions' own: `word.Reads.Post` is what `word` ensures. Those of generic functions hold of every type.
-- Assumes nothing.
use Prim.Native.Nat.{ℕ}
use mathlib.Core.Path.{◌≡◌, sym, ◌∙◌}
use mathlib.Core.List.{List}
use mir.Syntax.{Dict}
use denote.RattleType.{RattleType}
use denote.Param.Laws.{Laws, IsCopy}
use Rattle.std.specs.declared.clone.Clone as Clone
use Rattle.text.proofs.OneOutcome.{One}
use Rattle.render.specs.Print.{Prints}
use Rattle.render.specs.declared.event.RadioEvent as RadioEvent
use Rattle.render.specs.declared.refusal.Refusal as Refusal
use Rattle.render.proofs.word.word as word
use Rattle.render.proofs.word.number as number
use Rattle.render.proofs.refusal.AtPacketErrorRefusal.print as of_at
use Rattle.render.proofs.refusal.EdmPacketErrorRefusal.print as of_frame
use Rattle.render.proofs.refusal.EventWriteErrorRefusal.print as of_event_write
use Rattle.render.proofs.refusal.CaptureErrorRefusal.print as of_capture
use Rattle.render.proofs.refusal.ScanErrorRefusal.print as of_scan
use Rattle.render.proofs.refusal.refused_at as refused_at
use Rattle.render.proofs.response.answer as response
use Rattle.render.proofs.w26.ATEventRadioEvent.print as event_26
use Rattle.render.proofs.w36.ATEventRadioEvent.print as event_36
use Rattle.render.proofs.event.answer as event
use Rattle.render.proofs.w36.binary_answer as binary_answer
use Rattle.render.proofs.w36.step as step
use Rattle.render.proofs.frame.answer as frame
use Rattle.render.proofs.why.event as why_event
use Rattle.render.proofs.why.binary as why_binary
use Rattle.render.proofs.why.frame as why_frame
use Rattle.render.proofs.capture.answer as capture_answer
use Rattle.render.proofs.capture.meaning as capture_meaning
use Rattle.render.proofs.range.range as range_range
use Rattle.render.proofs.range.meaning as range_meaning
use Rattle.render.proofs.explained.answer as explained
use Rattle.render.proofs.explained.binary as explained_binary
use Rattle.render.proofs.written.answer as written

abbrev outcome : ℕ → List ℕ → ℕ × List ℕ
outcome place buffer = (place, buffer)

printed_once : {b d e : List ℕ} {at r q : ℕ} {ds : List ℕ} → Prints b at ds r d → Prints b at ds q e → outcome r d ≡ outcome q e
printed_once x y =
    let place = x.reaches ∙ sym y.reaches in
    let buffer = x.leaves ∙ sym y.leaves in
    rw (place, buffer)

-- a type parameter that can be copied, and what its trait says of it
pub record Radio : Type 2 where
  pub row : RattleType
  pub laws : Laws row
  pub copy : IsCopy row
  pub events : RadioEvent.Ghosts row.Denot
  pub events-dict : Dict
  pub clones : Clone.Ghosts row.Denot
  pub clones-dict : Dict

pub record Refusals : Type 2 where
  pub row : RattleType
  pub laws : Laws row
  pub copy : IsCopy row
  pub refusals : Refusal.Ghosts row.Denot
  pub refusals-dict : Dict
  pub clones : Clone.Ghosts row.Denot
  pub clones-dict : Dict

pub record Copied : Type 2 where
  pub row : RattleType
  pub laws : Laws row
  pub copy : IsCopy row
  pub clones : Clone.Ghosts row.Denot
  pub clones-dict : Dict

pub one_word : One 2 word.Kinds.ps word.Kinds.r word.Reads.Post (λ κs x s. outcome x s.0.now)
one_word κs a x y s t p q = printed_once p q

pub one_number : One 1 number.Kinds.ps number.Kinds.r number.Reads.Post (λ κs x s. outcome x s.0.now)
one_number κs a x y s t p q = printed_once p q

-- refusals
pub one_of_at : One 1 of_at.Kinds.ps of_at.Kinds.r of_at.Reads.Post (λ κs x s. outcome x s.1.0.now)
one_of_at κs a x y s t p q = printed_once p q

pub one_of_frame : One 1 of_frame.Kinds.ps of_frame.Kinds.r of_frame.Reads.Post (λ κs x s. outcome x s.1.0.now)
one_of_frame κs a x y s t p q = printed_once p q

pub one_of_event_write : One 1 of_event_write.Kinds.ps of_event_write.Kinds.r of_event_write.Reads.Post (λ κs x s. outcome x s.1.0.now)
one_of_event_write κs a x y s t p q = printed_once p q

pub one_of_capture : One 1 of_capture.Kinds.ps of_capture.Kinds.r of_capture.Reads.Post (λ κs x s. outcome x s.1.0.now)
one_of_capture κs a x y s t p q = printed_once p q

pub one_scan_refused : One 1 of_scan.Kinds.ps of_scan.Kinds.r of_scan.Reads.Post (λ κs x s. outcome x s.1.0.now)
one_scan_refused κs a x y s t p q = printed_once p q

pub one_refused_at : (e : Refusals) → One 2 (refused_at.Kinds.ps e.row e.laws e.copy) (refused_at.Kinds.r e.row e.laws e.copy) (refused_at.Reads.Post e.row e.laws e.copy e.refusals e.refusals-dict e.clones e.clones-dict) (λ κs x s. outcome x s.0.now)
one_refused_at e κs a x y s t p q = printed_once p q

-- events
pub one-event-26 : One 2 event_26.Kinds.ps event_26.Kinds.r event_26.Reads.Post (λ κs x s. outcome x s.1.0.now)
one-event-26 κs a x y s t p q = printed_once p q

pub one-event-36 : One 2 event_36.Kinds.ps event_36.Kinds.r event_36.Reads.Post (λ κs x s. outcome x s.1.0.now)
one-event-36 κs a x y s t p q = printed_once p q

pub one-event : (e : Radio) → One 3 (event.Kinds.ps e.row e.laws e.copy) (event.Kinds.r e.row e.laws e.copy) (event.Reads.Post e.row e.laws e.copy e.events e.events-dict e.clones e.clones-dict) (λ κs x s. outcome x s.0.now)
one-event e κs a x y s t p q = printed_once p q

pub one-response : One 2 response.Kinds.ps response.Kinds.r response.Reads.Post (λ κs x s. outcome x s.0.now)
one-response κs a x y s t p q = printed_once p q

pub one-binary : One 2 binary_answer.Kinds.ps binary_answer.Kinds.r binary_answer.Reads.Post (λ κs x s. outcome x s.0.now)
one-binary κs a x y s t p q = printed_once p q

pub one-step : One 2 step.Kinds.ps step.Kinds.r step.Reads.Post (λ κs x s. outcome x s.0.now)
one-step κs a x y s t p q = printed_once p q

pub one-frame : One 2 frame.Kinds.ps frame.Kinds.r frame.Reads.Post (λ κs x s. outcome x s.0.now)
one-frame κs a x y s t p q = printed_once p q

pub one-written : (e : Refusals) → One 3 (written.Kinds.ps e.row e.laws e.copy) (written.Kinds.r e.row e.laws e.copy) (written.Reads.Post e.row e.laws e.copy e.refusals e.refusals-dict e.clones e.clones-dict) (λ κs x s. outcome x s.0.now)
one-written e κs a x y s t p q = printed_once p q

pub one-why-event : (e : Radio) → One 3 (why_event.Kinds.ps e.row e.laws e.copy) (why_event.Kinds.r e.row e.laws e.copy) (why_event.Reads.Post e.row e.laws e.copy e.events e.events-dict e.clones e.clones-dict) (λ κs x s. outcome x s.0.now)
one-why-event e κs a x y s t p q = printed_once p q

pub one-why-binary : One 2 why_binary.Kinds.ps why_binary.Kinds.r why_binary.Reads.Post (λ κs x s. outcome x s.0.now)
one-why-binary κs a x y s t p q = printed_once p q

pub one-why-frame : One 2 why_frame.Kinds.ps why_frame.Kinds.r why_frame.Reads.Post (λ κs x s. outcome x s.0.now)
one-why-frame κs a x y s t p q = printed_once p q

-- explanations
pub one-explained : (t : Copied) (e : Refusals)
    → One 4 (explained.Kinds.ps t.row e.row t.laws e.laws t.copy e.copy) (explained.Kinds.r t.row e.row t.laws e.laws t.copy e.copy)
    (explained.Reads.Post t.row e.row t.laws e.laws t.copy e.copy t.clones t.clones-dict e.refusals e.refusals-dict e.clones e.clones-dict)
    (λ κs x s. outcome x s.0.now)
one-explained t e κs a x y s v p q = printed_once p q

pub one-explained-binary : One 2 explained_binary.Kinds.ps explained_binary.Kinds.r explained_binary.Reads.Post (λ κs x s. outcome x s.0.now)
one-explained-binary κs a x y s t p q = printed_once p q

-- captures
pub one_capture_answer : One 1 capture_answer.Kinds.ps capture_answer.Kinds.r capture_answer.Reads.Post (λ κs x s. outcome x s.0.now)
one_capture_answer κs a x y s t p q = printed_once p q

pub one_capture_meaning : One 2 capture_meaning.Kinds.ps capture_meaning.Kinds.r capture_meaning.Reads.Post (λ κs x s. outcome x s.0.now)
one_capture_meaning κs a x y s t p q = printed_once p q

-- dumps
pub one_range : One 1 range_range.Kinds.ps range_range.Kinds.r range_range.Reads.Post (λ κs x s. outcome x s.0.now)
one_range κs a x y s t p q = printed_once p q

pub one_range_meaning : One 2 range_meaning.Kinds.ps range_meaning.Kinds.r range_meaning.Reads.Post (λ κs x s. outcome x s.0.now)
one_range_meaning κs a x y s t p q = printed_once p q
