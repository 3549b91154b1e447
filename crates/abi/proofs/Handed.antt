-- What a read hands out, by the call's own promise: the row begins with the numbers of an answer of which every place lies inside the slice (place plus
-- length is at most its length), so that a caller may slice without a test, and every text is UTF-8, so that a caller in Rust may make a `&str` of it
-- without a second check. `w26.Reads.Post` is what `mirvoncle_read_w26` ensures. Assumes nothing.
use Prim.Native.Nat.{ℕ, ◌≤◌}
use mathlib.Core.Path.{◌≡◌, ◌∙◌}
use mathlib.Core.List.{List}
use lib.ListN.{length}
use contract.Lifetimes.{Lfts}
use denote.Triple.Clauses.{AtExit}
use borrow.Fn.Kinds.{Dens, ended_of}
use Rattle.at.specs.Refusal.{OrRefused}
use Rattle.at.specs.Event.{ReadEvent}
use Rattle.at.specs.Binary.{Tried, try_rows}
use Rattle.at.specs.Line.{read_line}
use Rattle.at.specs.Response.{Response, read_response}
use Rattle.at.specs.Walk.{Step, step_at}
use Rattle.at.specs.Inside.{IfGood, AnswerInside, TriedInside, ResponseInside, StepInside}
use Rattle.at.specs.Typed.{TextAnswer, TriedTyped, ResponseTyped, StepTyped}
use Rattle.at.specs.W26 as of26
use Rattle.at.specs.W36 as of36
use Rattle.at.proofs.InsideLaws.{stays_26, stays_36, line_at, rows_at, response-at, step-at}
use Rattle.at.proofs.TypedLaws.{trims_26, trims_36, line_typed, rows-typed, response-typed, step_typed}
use Rattle.edm.specs.Packet.{Packet}
use Rattle.edm.specs.Frame.{read_frame}
use Rattle.edm.specs.Inside.{PacketInside}
use Rattle.edm.specs.Typed.{PacketTyped}
use Rattle.edm.proofs.InsidePrograms.{frame-inside}
use Rattle.edm.proofs.TypedLaws.{frame-typed}
use Rattle.abi.specs.Row.{read_numbers, response_numbers, packet_numbers, encode, encode_tried, encode_step, over, HandsOut}
use Rattle.abi.proofs.RowLaws.{handed_long}
use Rattle.abi.proofs.read.mirvoncle_read_frame as frame
use Rattle.abi.proofs.read.mirvoncle_read_w26 as w26
use Rattle.abi.proofs.read.mirvoncle_read_w36 as w36
use Rattle.abi.proofs.read.mirvoncle_read_w36_binary as binary
use Rattle.abi.proofs.read.mirvoncle_read_w36_step as step
use Rattle.abi.proofs.read.mirvoncle_read_response as response

-- a row that begins with the numbers of an answer, of which something holds
pub record Handed {A : Type 0} (numbers : A → List ℕ) (Holds : A → Type 0) (row exit : List ℕ) : Type 0 where
  pub answer : A
  pub begins : exit ≡ over row (numbers answer)
  pub holds : Holds answer

hands : {A : Type 0} (numbers : A → List ℕ) (Holds : A → Type 0) (o : A) {r : ℕ} {row exit : List ℕ} → HandsOut row (numbers o) r exit → 17 ≤ length row → Holds o
    → Handed numbers Holds row exit
hands numbers Holds o {r} {row} {exit} p h k = record { answer = o; begins = p.leaves ∙ handed_long row (numbers o) h; holds = k }

module _ (κs : Lfts 2) (r : ℕ) where
  pub w26-handed : (a : Dens κs w26.Kinds.ps) (i : AtExit (ended_of 2 w26.Kinds.ps w26.Kinds.r) κs) → w26.Reads.Post κs a r i → 17 ≤ length a.1.0.now
      → Handed (encode (read_numbers of26.table)) (λ (o : OrRefused ReadEvent). AnswerInside (length a.0.now) o × TextAnswer of26.table a.0.now o) a.1.0.now i.1.0.now
  w26-handed a i p h =
      let s = a.0.now in
      hands _ _ (read_line of26.w26 0 s) p h (line_at s 0 of26.w26 stays_26, line_typed s 0 of26.w26 trims_26)

  pub w36-handed : (a : Dens κs w36.Kinds.ps) (i : AtExit (ended_of 2 w36.Kinds.ps w36.Kinds.r) κs) → w36.Reads.Post κs a r i → 17 ≤ length a.1.0.now
      → Handed (encode (read_numbers of36.rows36)) (λ (o : OrRefused ReadEvent). AnswerInside (length a.0.now) o × TextAnswer of36.table a.0.now o) a.1.0.now i.1.0.now
  w36-handed a i p h =
      let s = a.0.now in
      hands _ _ (read_line of36.w36 0 s) p h (line_at s 0 of36.w36 stays_36, line_typed s 0 of36.w36 trims_36)

  pub binary-handed : (a : Dens κs binary.Kinds.ps) (i : AtExit (ended_of 2 binary.Kinds.ps binary.Kinds.r) κs) → binary.Reads.Post κs a r i → 17 ≤ length a.1.0.now
      → Handed encode_tried (λ (t : Tried). TriedInside (length a.0.now) t × TriedTyped of36.binary_table a.0.now t) a.1.0.now i.1.0.now
  binary-handed a i p h =
      let s = a.0.now in
      hands _ _ (try_rows of36.binary_table 0 s) p h (rows_at s 0 of36.binary_table, rows-typed s 0 of36.binary_table)

  pub response-handed : (a : Dens κs response.Kinds.ps) (i : AtExit (ended_of 2 response.Kinds.ps response.Kinds.r) κs) → response.Reads.Post κs a r i → 17 ≤ length a.1.0.now
      → Handed (encode response_numbers) (λ (o : OrRefused Response). IfGood (ResponseInside (length a.0.now)) o × IfGood (ResponseTyped a.0.now) o) a.1.0.now i.1.0.now
  response-handed a i p h =
      let s = a.0.now in
      hands _ _ (read_response 0 s) p h (response-at s 0, response-typed s 0)

  pub frame-handed : (a : Dens κs frame.Kinds.ps) (i : AtExit (ended_of 2 frame.Kinds.ps frame.Kinds.r) κs) → frame.Reads.Post κs a r i → 17 ≤ length a.1.0.now
      → Handed (encode packet_numbers) (λ (o : OrRefused Packet). IfGood (PacketInside (length a.0.now)) o × IfGood (PacketTyped a.0.now) o) a.1.0.now i.1.0.now
  frame-handed a i p h =
      let s = a.0.now in
      hands _ _ (read_frame s) p h (frame-inside s, frame-typed s)

  -- one step of the walk, from any place on
  pub step-handed : (a : Dens κs step.Kinds.ps) (i : AtExit (ended_of 2 step.Kinds.ps step.Kinds.r) κs) → step.Reads.Post κs a r i → 17 ≤ length a.1.1.0.now
      → Handed encode_step (λ (t : Step). StepInside (length a.0.now) t × StepTyped a.0.now t) a.1.1.0.now i.1.1.0.now
  step-handed a i p h =
      let s = a.0.now in
      hands _ _ (step_at s a.1.0) p h (step-at s a.1.0, step_typed s a.1.0)
