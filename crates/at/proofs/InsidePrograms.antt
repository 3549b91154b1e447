-- Every text, data and address place in a reader's answer lies inside the lent slice, and so does the place just past an event: a caller may slice
-- there. One theorem for each reader, over the function's own promise: `w26.Reads.Post` is what `w26::read` ensures. Assumes nothing.
use Prim.Native.Nat.{ℕ}
use mathlib.Core.List.{List}
use lib.ListN.{length}
use contract.Lifetimes.{Lfts}
use denote.Ref.{Bor}
use denote.Triple.Clauses.{AtExit}
use borrow.Fn.Kinds.{ended_of}
use Rattle.std.specs.Prelude.{Option, Result}
use Rattle.at.specs.W26 as of26
use Rattle.at.specs.W36 as of36
use Rattle.at.specs.Response as of_response_lem
use Rattle.at.specs.Walk as of_walk
use Rattle.at.specs.Inside.{IfGood, AnswerInside, TriedInside, ResponseInside, StepInside}
use Rattle.at.specs.declared.AtPacketError.{AtPacketError}
use Rattle.at.specs.declared.ReadEvent.{ReadEvent}
use Rattle.at.specs.declared.w26.ATEvent as event26
use Rattle.at.specs.declared.w36.ATEvent as event36
use Rattle.at.specs.declared.response.ATResponse.{ATResponse}
use Rattle.at.specs.declared.walk.EventWalk.{EventWalk}
use Rattle.at.proofs.WalkRuns.{Answer}
use Rattle.at.proofs.InsideLaws.{stays_26, stays_36, line_at, rows_at, response-at, step-at}
use Rattle.at.proofs.w26.read as w26
use Rattle.at.proofs.w36.read as w36
use Rattle.at.proofs.w36.try_parse_binary as try_parse_binary
use Rattle.at.proofs.response.read as response
use Rattle.at.proofs.walk.EventWalk.next as next

module _ (κs : Lfts 1) (s : Bor (List ℕ)) where
  pub w26_read_inside : (from : ℕ) (r : Result (ReadEvent event26.ATEvent) AtPacketError) (i : AtExit (ended_of 1 w26.Kinds.ps w26.Kinds.r) κs) → w26.Reads.Post κs (s, (from, tt)) r i
      → AnswerInside (length s.now) (of26.shown r)
  w26_read_inside from r i e = rw e (line_at s.now from of26.w26 stays_26)

  pub w36_read_inside : (from : ℕ) (r : Result (ReadEvent event36.ATEvent) AtPacketError) (i : AtExit (ended_of 1 w36.Kinds.ps w36.Kinds.r) κs) → w36.Reads.Post κs (s, (from, tt)) r i
      → AnswerInside (length s.now) (of36.shown r)
  w36_read_inside from r i e = rw e (line_at s.now from of36.w36 stays_36)

  pub try_parse_binary-inside : (from : ℕ) (r : Result (Option (ReadEvent event36.ATEvent)) AtPacketError) (i : AtExit (ended_of 1 try_parse_binary.Kinds.ps try_parse_binary.Kinds.r) κs)
      → try_parse_binary.Reads.Post κs (s, (from, tt)) r i → TriedInside (length s.now) (of36.shown_binary r)
  try_parse_binary-inside from r i e = rw e (rows_at s.now from of36.binary_table)

  pub next-inside : (w : EventWalk) (r : Answer) (i : AtExit (ended_of 1 next.Kinds.ps next.Kinds.r) κs) → next.Reads.Post κs (w, (s, tt)) r i
      → StepInside (length s.now) (of_walk.shown r)
  next-inside w r i e = rw e (step-at s.now w.at)

  pub response_read_inside : (from : ℕ) (r : Result ATResponse AtPacketError) (i : AtExit (ended_of 1 response.Kinds.ps response.Kinds.r) κs) → response.Reads.Post κs (s, (from, tt)) r i
      → IfGood (ResponseInside (length s.now)) (of_response_lem.shown r)
  response_read_inside from r i e = rw e (response-at s.now from)
