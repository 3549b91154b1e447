-- What the number of a why call says, by the call's own promise: its lowest byte is the number of the plain call, the byte above it the field, and what
-- stands above both the reason. Assumes nothing.
use Prim.Native.Nat.{ℕ}
use mathlib.Core.Path.{◌≡◌, refl}
use mathlib.Core.List.{List}
use contract.Lifetimes.{Lfts}
use denote.Ref.{Bor}
use denote.Triple.Clauses.{AtExit}
use borrow.Fn.Kinds.{ended_of}
use Rattle.at.specs.Refusal.{no, OrRefused, good, refused}
use Rattle.at.specs.Line.{read_line}
use Rattle.at.specs.Binary.{Tried, not_binary, tried, try_rows}
use Rattle.at.specs.W26 as of26
use Rattle.at.specs.W36 as of36
use Rattle.at.specs.Why.{FieldUpToSeven, TriedUpToSeven}
use Rattle.at.proofs.TableTests.{roomy-w26, roomy-w36, roomy-binary}
use Rattle.at.proofs.WhyLaws.{line_seven, binary-seven}
use Rattle.edm.specs.Frame.{read_frame}
use Rattle.edm.proofs.WhyPrograms.{frame-seven}
use Rattle.abi.specs.Code.{why_code, why_binary_code}
use Rattle.abi.proofs.Numbers.{Ok, Tried_ok, line_ok, binary_ok, frame_ok}
use Rattle.abi.proofs.CodeLaws.{Unpacks, refusal_unpacks}
use Rattle.abi.proofs.mirvoncle_frame_why as frame-why
use Rattle.abi.proofs.mirvoncle_w26_why as w26-why
use Rattle.abi.proofs.mirvoncle_w36_why as w36-why
use Rattle.abi.proofs.mirvoncle_w36_binary_why as binary-why

-- no refusal at all is `no 0`
abbrev pub SaysWhy : {A : Type 0} → OrRefused A → ℕ → Type 0
SaysWhy (good a) r = Unpacks (no 0) r
SaysWhy (refused n) r = Unpacks n r

abbrev pub SaysWhyTried : Tried → ℕ → Type 0
SaysWhyTried not_binary r = Unpacks (no 255) r
SaysWhyTried (tried a) r = SaysWhy a r

says-why : {A : Type 0} (o : OrRefused A) (r : ℕ) → Ok o → FieldUpToSeven o → r ≡ why_code o → SaysWhy o r
says-why (good a) r k h e = rw e (record { lowest = refl; above = refl; highest = refl })
says-why (refused n) r k h e = rw e (refusal_unpacks n k h)

says-why-tried : (t : Tried) (r : ℕ) → Tried_ok t → TriedUpToSeven t → r ≡ why_binary_code t → SaysWhyTried t r
says-why-tried not_binary r k h e = rw e (record { lowest = refl; above = refl; highest = refl })
says-why-tried (tried a) r k h e = says-why a r k h e

module _ (κs : Lfts 1) (s : Bor (List ℕ)) (r : ℕ) where
  pub frame-says-why : (i : AtExit (ended_of 1 frame-why.Kinds.ps frame-why.Kinds.r) κs) → frame-why.Reads.Post κs (s, tt) r i → SaysWhy (read_frame s.now) r
  frame-says-why i p = says-why (read_frame s.now) r (frame_ok s.now) (frame-seven s.now) p

  pub w26-says-why : (i : AtExit (ended_of 1 w26-why.Kinds.ps w26-why.Kinds.r) κs) → w26-why.Reads.Post κs (s, tt) r i → SaysWhy (read_line of26.w26 0 s.now) r
  w26-says-why i p =
      says-why (read_line of26.w26 0 s.now) r (line_ok of26.w26 0 s.now) (line_seven of26.w26 0 s.now roomy-w26.0) p

  pub w36-says-why : (i : AtExit (ended_of 1 w36-why.Kinds.ps w36-why.Kinds.r) κs) → w36-why.Reads.Post κs (s, tt) r i → SaysWhy (read_line of36.w36 0 s.now) r
  w36-says-why i p =
      says-why (read_line of36.w36 0 s.now) r (line_ok of36.w36 0 s.now) (line_seven of36.w36 0 s.now roomy-w36.0) p

  pub binary-says-why : (i : AtExit (ended_of 1 binary-why.Kinds.ps binary-why.Kinds.r) κs) → binary-why.Reads.Post κs (s, tt) r i
      → SaysWhyTried (try_rows of36.binary_table 0 s.now) r
  binary-says-why i p =
      let t = try_rows of36.binary_table 0 s.now in
      says-why-tried t r (binary_ok of36.binary_table 0 s.now) (binary-seven of36.binary_table 0 s.now roomy-binary) p
