-- What the number of a call says, by the call's own promise: `frame.Reads.Post` is what `mirvoncle_frame` ensures. No two things have one number: 0 is
-- an accepted read and nothing else, a refused one is from 1 to 16, and 255 is "not binary" alone. A write of a frame returns a length from 6 to 4,099, or 65,536
-- and a number from 1 to 16. Assumes nothing.
use Prim.Native.Nat.{ℕ, ◌+◌, ◌≤◌, ◌<◌}
use mathlib.Core.Path.{◌≡◌, refl}
use mathlib.Core.List.{List, [], ◌∷◌}
use mathlib.Core.Bool.{Bool, true, false, cond, ◌&&◌}
use native.Mathlib.Omega.{arith}
use lib.Dec.{leb, ltb}
use lib.ListN.{length}
use borrow.Author.Tests.{leb-true}
use contract.Lifetimes.{Lfts}
use denote.Ref.{Bor}
use denote.Triple.Clauses.{AtExit}
use borrow.Fn.Kinds.{Dens, ended_of}
use Rattle.text.specs.Utf8.{utf8}
use Rattle.text.proofs.Bools.{either}
use Rattle.at.specs.Refusal.{no, number_of, OrRefused, good, refused}
use Rattle.at.specs.Event.{Event, event}
use Rattle.at.specs.Written.{answer_to}
use Rattle.writer.specs.Line.{contents_of, line_of}
use Rattle.writer.specs.Write.{writable, to_write}
use Rattle.abi.specs.Given.{event_in26, event_in36, line_for}
use Rattle.at.specs.Line.{read_line}
use Rattle.at.specs.Binary.{Tried, not_binary, tried, try_rows}
use Rattle.at.specs.Response.{read_response}
use Rattle.at.specs.W26 as of26
use Rattle.at.specs.W36 as of36
use Rattle.edm.specs.Frame.{read_frame}
use Rattle.edm.specs.Command.{frame as frame_bytes, Command, command, request_of, fitted, to_send}
use Rattle.edm.proofs.CommandLaws.{frame-length}
use Rattle.abi.specs.Code.{read_code, binary_code, frame_base, line_base, write_code}
use Rattle.abi.proofs.Numbers.{Known, known, Ok, Tried_ok, line_ok, binary_ok, response_ok, frame_ok}
use Rattle.abi.proofs.mirvoncle_frame as frame
use Rattle.abi.proofs.mirvoncle_w26 as w26
use Rattle.abi.proofs.mirvoncle_w36 as w36
use Rattle.abi.proofs.mirvoncle_w36_binary as binary
use Rattle.abi.proofs.mirvoncle_response as response
use Rattle.abi.proofs.mirvoncle_write_data as write-data
use Rattle.abi.proofs.mirvoncle_write_request as write_request
use Rattle.abi.proofs.mirvoncle_write_resend as write_resend
use Rattle.abi.proofs.write.mirvoncle_write_w26 as write-w26
use Rattle.abi.proofs.write.mirvoncle_write_w36 as write-w36

-- Reads

-- 0 says that a read was accepted, and any other number is the refusal's
abbrev pub Says : {A : Type 0} → OrRefused A → ℕ → Type 0
Says (good a) r = r ≡ 0
Says (refused n) r = (r ≡ number_of n) × Known (number_of n)

says : {A : Type 0} (o : OrRefused A) (r : ℕ) → Ok o → r ≡ read_code o → Says o r
says (good a) r k e = e
says (refused n) r k e = (e, k)

pub accepted : {A : Type 0} (o : OrRefused A) (r : ℕ) → Says o r → r ≡ 0 → (a : A) × (o ≡ good a)
accepted (good a) r s z = (a, refl)
accepted (refused n) r s z = absurd (omega (arith, s.0, s.1.least, z))

-- 255 says that there is no binary event at all
abbrev pub SaysTried : Tried → ℕ → Type 0
SaysTried not_binary r = r ≡ 255
SaysTried (tried a) r = Says a r

says-tried : (t : Tried) (r : ℕ) → Tried_ok t → r ≡ binary_code t → SaysTried t r
says-tried not_binary r k e = e
says-tried (tried a) r k e = says a r k e

pub not-binary : (t : Tried) (r : ℕ) → SaysTried t r → r ≡ 255 → t ≡ not_binary
not-binary not_binary r s z = refl
not-binary (tried (good e)) r s z = absurd (omega (arith, s, z))
not-binary (tried (refused n)) r s z = absurd (omega (arith, s.0, s.1.most, z))

module _ (κs : Lfts 1) (s : Bor (List ℕ)) (r : ℕ) where
  pub frame-says : (i : AtExit (ended_of 1 frame.Kinds.ps frame.Kinds.r) κs) → frame.Reads.Post κs (s, tt) r i → Says (read_frame s.now) r
  frame-says i p = says (read_frame s.now) r (frame_ok s.now) p

  pub w26-says : (i : AtExit (ended_of 1 w26.Kinds.ps w26.Kinds.r) κs) → w26.Reads.Post κs (s, tt) r i → Says (read_line of26.w26 0 s.now) r
  w26-says i p = says (read_line of26.w26 0 s.now) r (line_ok of26.w26 0 s.now) p

  pub w36-says : (i : AtExit (ended_of 1 w36.Kinds.ps w36.Kinds.r) κs) → w36.Reads.Post κs (s, tt) r i → Says (read_line of36.w36 0 s.now) r
  w36-says i p = says (read_line of36.w36 0 s.now) r (line_ok of36.w36 0 s.now) p

  pub binary-says : (i : AtExit (ended_of 1 binary.Kinds.ps binary.Kinds.r) κs) → binary.Reads.Post κs (s, tt) r i → SaysTried (try_rows of36.binary_table 0 s.now) r
  binary-says i p = says-tried (try_rows of36.binary_table 0 s.now) r (binary_ok of36.binary_table 0 s.now) p

  pub response-says : (i : AtExit (ended_of 1 response.Kinds.ps response.Kinds.r) κs) → response.Reads.Post κs (s, tt) r i → Says (read_response 0 s.now) r
  response-says i p = says (read_response 0 s.now) r (response_ok 0 s.now) p

-- Writes

-- the length of the frame, or 65,536 and the refusal's number: a number below 65,536 says that a frame was written
abbrev pub SaysSent : OrRefused (List ℕ) → ℕ → Type 0
SaysSent (good f) r = (r ≡ length f) × (6 ≤ r) × (r ≤ 4099)
SaysSent (refused n) r = (r ≡ 65536 + number_of n) × Known (number_of n)

pub below_sent : (w : OrRefused (List ℕ)) (r : ℕ) → SaysSent w r → r < 65536 → (f : List ℕ) × (w ≡ good f)
below_sent (good f) r s h = (f, refl)
below_sent (refused n) r s h = absurd (omega (arith, s.0, h))

-- a frame that is sent has 6 to 4,099 bytes
abbrev Sent_ok : OrRefused (List ℕ) → Type 0
Sent_ok (good f) = (6 ≤ length f) × (length f ≤ 4099)
Sent_ok (refused n) = Known (number_of n)

sent_ok : (room : ℕ) (k : OrRefused Command) → Ok k → Sent_ok (to_send room k)
unfolding to_send
sent_ok room k h = either Sent_ok (ltb room 6) (known 2 refl refl) (go k h)
  where
    within : (id : ℕ) (t : List ℕ) (l m : Bool) → leb (length t) 4093 ≡ l → Sent_ok (cond (l && m) (good (frame_bytes id t)) (refused (no 10)))
    within id t true true e = let n = frame-length id t in let s = leb-true (length t) 4093 e in (omega arith, omega arith)
    within id t true false e = known 10 refl refl
    within id t false m e = known 10 refl refl

    go : (k : OrRefused Command) → Ok k → Sent_ok (fitted room k)
    go (good (command id t)) h = within id t (leb (length t) 4093) (leb (length t + 6) room) refl
    go (refused n) h = h

says_sent : (room : ℕ) (k : OrRefused Command) (r : ℕ) → Ok k → r ≡ write_code frame_base (answer_to (to_send room k)) → SaysSent (to_send room k) r
says_sent room k r h = go (to_send room k) (sent_ok room k h)
  where
    go : (w : OrRefused (List ℕ)) → Sent_ok w → r ≡ write_code frame_base (answer_to w) → SaysSent w r
    go (good f) k e = (e, omega (arith, e, k.0), omega (arith, e, k.1))
    go (refused n) k e = (e, k)

pub data-says : (κs : Lfts 2) (a : Dens κs write-data.Kinds.ps) (r : ℕ) (i : AtExit (ended_of 2 write-data.Kinds.ps write-data.Kinds.r) κs)
    → write-data.Reads.Post κs a r i → SaysSent (to_send (length a.0.now) (good (command 0x36 (a.1.0 ∷ a.1.1.0.now)))) r
data-says κs a r i p = says_sent (length a.0.now) (good (command 0x36 (a.1.0 ∷ a.1.1.0.now))) r tt p.answers

pub request_says : (κs : Lfts 2) (a : Dens κs write_request.Kinds.ps) (r : ℕ) (i : AtExit (ended_of 2 write_request.Kinds.ps write_request.Kinds.r) κs)
    → write_request.Reads.Post κs a r i → SaysSent (to_send (length a.0.now) (request_of a.1.0.now)) r
request_says κs a r i p = says_sent (length a.0.now) (request_of a.1.0.now) r (either Ok (utf8 a.1.0.now) tt (known 8 refl refl)) p.answers

pub resend_says : (κs : Lfts 1) (a : Dens κs write_resend.Kinds.ps) (r : ℕ) (i : AtExit (ended_of 1 write_resend.Kinds.ps write_resend.Kinds.r) κs)
    → write_resend.Reads.Post κs a r i → SaysSent (to_send (length a.0.now) (good (command 0x56 []))) r
resend_says κs a r i p = says_sent (length a.0.now) (good (command 0x56 [])) r tt p.answers

-- Writes of an event's line

-- a number below 2^63 says that a line was written, and is its length; every line is below it that is written to a buffer below 2^63 bytes
abbrev pub SaysLine : ℕ → OrRefused (List ℕ) → ℕ → Type 0
SaysLine room (good l) r = (r ≡ length l) × (r ≤ room)
SaysLine room (refused n) r = r ≡ line_base + number_of n

pub below_line : (room : ℕ) (w : OrRefused (List ℕ)) (r : ℕ) → SaysLine room w r → r < line_base → (l : List ℕ) × (w ≡ good l)
below_line room (good l) r s h = (l, refl)
below_line room (refused n) r s h = absurd (omega (arith, s, h))

line_fits : (room : ℕ) (src : List ℕ) (o : OrRefused Event) (r : ℕ) → r ≡ write_code line_base (answer_to (line_for room src o)) → SaysLine room (line_for room src o) r
unfolding to_write
line_fits room src (refused n) r e = e
line_fits room src (good (event row vs)) r e = go (writable src row vs) (leb (length (line_of row (contents_of src vs))) room) refl e
  where
    go : (k l : Bool) → leb (length (line_of row (contents_of src vs))) room ≡ l
        → r ≡ write_code line_base (answer_to (cond k (cond l (good (line_of row (contents_of src vs))) (refused (no 18))) (refused (no 17))))
        → SaysLine room (cond k (cond l (good (line_of row (contents_of src vs))) (refused (no 18))) (refused (no 17))) r
    go true true t q = (q, omega (arith, q, leb-true (length (line_of row (contents_of src vs))) room t))
    go true false t q = q
    go false l t q = q

pub w26_line_says : (κs : Lfts 3) (a : Dens κs write-w26.Kinds.ps) (r : ℕ) (i : AtExit (ended_of 3 write-w26.Kinds.ps write-w26.Kinds.r) κs) → write-w26.Reads.Post κs a r i
    → SaysLine (length a.0.now) (line_for (length a.0.now) a.1.0.now (event_in26 a.1.1.0.now)) r
w26_line_says κs a r i p = line_fits (length a.0.now) a.1.0.now (event_in26 a.1.1.0.now) r p.answers

pub w36_line_says : (κs : Lfts 3) (a : Dens κs write-w36.Kinds.ps) (r : ℕ) (i : AtExit (ended_of 3 write-w36.Kinds.ps write-w36.Kinds.r) κs) → write-w36.Reads.Post κs a r i
    → SaysLine (length a.0.now) (line_for (length a.0.now) a.1.0.now (event_in36 a.1.1.0.now)) r
w36_line_says κs a r i p = line_fits (length a.0.now) a.1.0.now (event_in36 a.1.1.0.now) r p.answers
