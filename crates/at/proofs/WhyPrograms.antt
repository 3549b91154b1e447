-- The field that a refusal names is the first that is missing or of wrong form, every field before it is there and of its form, and the reason is the
-- number reader's on exactly that field's bytes. One theorem for each reader, over the function's own promise: `w26.Reads.Post` is what `w26::read`
-- ensures. Assumes nothing.
use Prim.Native.Nat.{ℕ}
use mathlib.Core.List.{List}
use lib.ListN.{drop}
use contract.Lifetimes.{Lfts}
use denote.Ref.{Bor}
use denote.Triple.Clauses.{AtExit}
use borrow.Fn.Kinds.{ended_of}
use Rattle.std.specs.Prelude.{Option, Result}
use Rattle.at.specs.W26 as of26
use Rattle.at.specs.W36 as of36
use Rattle.at.specs.Walk as of_walk
use Rattle.at.specs.Why.{LineNames, TriedNames, StepNames}
use Rattle.at.specs.declared.AtPacketError.{AtPacketError}
use Rattle.at.specs.declared.ReadEvent.{ReadEvent}
use Rattle.at.specs.declared.w26.ATEvent as event26
use Rattle.at.specs.declared.w36.ATEvent as event36
use Rattle.at.specs.declared.walk.EventWalk.{EventWalk}
use Rattle.at.proofs.WalkRuns.{Answer}
use Rattle.at.proofs.WhyLaws.{line_names, binary-names, step-names}
use Rattle.at.proofs.w26.read as w26
use Rattle.at.proofs.w36.read as w36
use Rattle.at.proofs.w36.try_parse_binary as try_parse_binary
use Rattle.at.proofs.walk.EventWalk.next as next

module _ (κs : Lfts 1) (s : Bor (List ℕ)) where
  pub w26_read_names : (from : ℕ) (r : Result (ReadEvent event26.ATEvent) AtPacketError) (i : AtExit (ended_of 1 w26.Kinds.ps w26.Kinds.r) κs) → w26.Reads.Post κs (s, (from, tt)) r i
      → LineNames of26.w26 from (drop from s.now) (of26.shown r)
  w26_read_names from r i e = rw e (line_names of26.w26 from (drop from s.now))

  pub w36_read_names : (from : ℕ) (r : Result (ReadEvent event36.ATEvent) AtPacketError) (i : AtExit (ended_of 1 w36.Kinds.ps w36.Kinds.r) κs) → w36.Reads.Post κs (s, (from, tt)) r i
      → LineNames of36.w36 from (drop from s.now) (of36.shown r)
  w36_read_names from r i e = rw e (line_names of36.w36 from (drop from s.now))

  pub try_parse_binary-names : (from : ℕ) (r : Result (Option (ReadEvent event36.ATEvent)) AtPacketError) (i : AtExit (ended_of 1 try_parse_binary.Kinds.ps try_parse_binary.Kinds.r) κs)
      → try_parse_binary.Reads.Post κs (s, (from, tt)) r i → TriedNames of36.binary_table from (drop from s.now) (of36.shown_binary r)
  try_parse_binary-names from r i e = rw e (binary-names of36.binary_table from (drop from s.now))

  pub next-names : (w : EventWalk) (r : Answer) (i : AtExit (ended_of 1 next.Kinds.ps next.Kinds.r) κs) → next.Reads.Post κs (w, (s, tt)) r i
      → StepNames s.now w.at (of_walk.shown r)
  next-names w r i e = rw e (step-names s.now w.at)
