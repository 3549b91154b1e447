-- The fields that an explaining function gives with an accepted input account for the whole answer: over the functions' own contracts, where
-- `left s w` is what the walk w of the answer gives.
use Prim.Native.Nat.{ℕ, ◌≤◌}
use mathlib.Core.Path.{◌≡◌, refl, sym, ap, ◌∙◌}
use mathlib.Core.List.{List, []}
use mathlib.Core.Bool.{Bool, true, false}
use Rattle.std.specs.Prelude.{Some, Ok}
use native.Mathlib.Omega.{arith}
use lib.Dec.{leb}
use lib.ListN.{length, drop, drop_of_length-le}
use borrow.Author.Tests.{leb-true, leb-false}
use contract.Lifetimes.{Lfts}
use denote.Triple.Clauses.{AtExit}
use borrow.Fn.Kinds.{Dens, ended_of}
use Rattle.at.specs.Refusal.{Refusal, no, OrRefused, good, refused}
use Rattle.at.specs.Event.{Kind, Value, ReadEvent, event_to}
use Rattle.at.specs.Response.{response_of, read_response}
use Rattle.at.specs.Line.{read_line}
use Rattle.at.specs.Binary as reader
use Rattle.at.specs.Binary.{Tried, try_rows}
use Rattle.at.specs.W26 as w26
use Rattle.at.specs.W36 as w36
use Rattle.at.specs.W36.{binary_table}
use Rattle.at.specs.declared.w26.ATEvent as event26
use Rattle.at.specs.declared.w36.ATEvent as event36
use Rattle.at.specs.declared.response.ATResponse as response
use Rattle.at.proofs.InsideLaws.{line_none, rows_none, response-none}
use Rattle.edm.specs.Packet.{packet_of}
use Rattle.edm.specs.declared.EdmPacket.{EdmPacket}
use Rattle.checks.specs.Binary.{Binary, not_binary, binary, binary_checks}
use Rattle.checks.specs.Part.{Part, left, parts_by, frame_parts, line_shape, response_shape, binary_shape}
use Rattle.checks.specs.Came.{Came, Accounts, read_values, read_kinds, response_values, packet_values, packet_kinds}
use Rattle.checks.specs.Explained.{accepted, some, ExplainsBinary}
use Rattle.checks.specs.declared.part.PartWalk.{PartWalk}
use Rattle.checks.specs.declared.part.Shape.{Shape}
use Rattle.checks.proofs.PartLaws.{parts_in_order, parts_within, frame_in_order, frame-within}
use Rattle.checks.proofs.CameFrom.{w26-came, w36-came, binary-event-came, response-text-came, frame-came}
use Rattle.checks.proofs.frame.explain as explain_frame
use Rattle.checks.proofs.response.explain as explain_response
use Rattle.checks.proofs.w26.explain as explain_w26
use Rattle.checks.proofs.w36.explain as explain_w36
use Rattle.checks.proofs.binary.explain as explain_binary

pub frame_accounted : (κs : Lfts 1) (a : Dens κs explain_frame.Kinds.ps) (t : AtExit (ended_of 1 explain_frame.Kinds.ps explain_frame.Kinds.r) κs) (q : EdmPacket) (w : PartWalk)
    → explain_frame.Reads.Post κs a (Ok (record { answer = q; fields = w })) t → Accounts (packet_kinds (packet_of q)) a.0.now 0 (left a.0.now w) (packet_values (packet_of q))
frame_accounted κs a t q w x =
    let s = a.0.now in
    let k = packet_of q in
    let e = sym x.answers in
    let f : left s w ≡ frame_parts s k = x.places ∙ rw e in
    rw f (record { order = frame_in_order s k; within = frame-within s k; came = frame-came s k e })

-- what is accepted from a place on starts inside the slice, since the empty input is refused
starts_inside : {A : Type 0} (read : List ℕ → OrRefused A) (n : Refusal) → read [] ≡ refused n → (s : List ℕ) (p : ℕ) (v : A) → read (drop p s) ≡ good v → p ≤ length s
starts_inside read n none s p v e = go (leb p (length s)) refl
  where
    go : (b : Bool) → leb p (length s) ≡ b → p ≤ length s
    go true h = leb-true p (length s) h
    go false h =
        let l : length s ≤ p = omega (arith, leb-false p (length s) h) in
        let g = sym none ∙ ap read (sym (drop_of_length-le s l)) ∙ e in
        absurd cc

by_shape : (k : Shape) (ks : List Kind) (s : List ℕ) (p : ℕ) (ps : List Part) (vs : List Value) → p ≤ length s → ps ≡ parts_by k s p → Came ks s (parts_by k s p) vs → Accounts ks s p ps vs
by_shape k ks s p ps vs h f c = rw f (record { order = parts_in_order k s p; within = parts_within k s p h; came = c })

pub w26_accounted : (κs : Lfts 1) (a : Dens κs explain_w26.Kinds.ps) (t : AtExit (ended_of 1 explain_w26.Kinds.ps explain_w26.Kinds.r) κs) (q : event26.ATEvent) (past : ℕ) (w : PartWalk)
    → explain_w26.Reads.Post κs a (Ok (record { answer = record { event = q; past = past }; fields = w })) t
    → let e = event_to (w26.event_of q) past in Accounts (read_kinds e) a.0.now a.1.0 (left a.0.now w) (read_values e)
w26_accounted κs a t q past w x =
    let s = a.0.now in
    let p = a.1.0 in
    let e = event_to (w26.event_of q) past in
    let g = sym x.answers in
    by_shape (line_shape (length s) e) (read_kinds e) s p (left s w) (read_values e) (starts_inside (read_line w26.w26 p) (no 12) (line_none w26.w26 p) s p e g) (x.places ∙ rw g) (w26-came s p e g)

pub w36_accounted : (κs : Lfts 1) (a : Dens κs explain_w36.Kinds.ps) (t : AtExit (ended_of 1 explain_w36.Kinds.ps explain_w36.Kinds.r) κs) (q : event36.ATEvent) (past : ℕ) (w : PartWalk)
    → explain_w36.Reads.Post κs a (Ok (record { answer = record { event = q; past = past }; fields = w })) t
    → let e = event_to (w36.event_of q) past in Accounts (read_kinds e) a.0.now a.1.0 (left a.0.now w) (read_values e)
w36_accounted κs a t q past w x =
    let s = a.0.now in
    let p = a.1.0 in
    let e = event_to (w36.event_of q) past in
    let g = sym x.answers in
    by_shape (line_shape (length s) e) (read_kinds e) s p (left s w) (read_values e) (starts_inside (read_line w36.w36 p) (no 12) (line_none w36.w36 p) s p e g) (x.places ∙ rw g) (w36-came s p e g)

pub response_accounted : (κs : Lfts 1) (a : Dens κs explain_response.Kinds.ps) (t : AtExit (ended_of 1 explain_response.Kinds.ps explain_response.Kinds.r) κs) (q : response.ATResponse) (w : PartWalk)
    → explain_response.Reads.Post κs a (Ok (record { answer = q; fields = w })) t → Accounts [] a.0.now a.1.0 (left a.0.now w) (response_values (response_of q))
response_accounted κs a t q w x =
    let s = a.0.now in
    let p = a.1.0 in
    let r = response_of q in
    let g = sym x.answers in
    by_shape (response_shape p r) [] s p (left s w) (response_values r) (starts_inside (read_response p) (no 12) (response-none p) s p r g) (x.places ∙ rw g) (response-text-came s p r g)

-- a binary event, which is tried
tried-inside : (s : List ℕ) (p : ℕ) (e : ReadEvent) → try_rows binary_table p (drop p s) ≡ reader.tried (good e) → p ≤ length s
tried-inside s p e f = go (leb p (length s)) refl
  where
    go : (b : Bool) → leb p (length s) ≡ b → p ≤ length s
    go true h = leb-true p (length s) h
    go false h =
        let l : length s ≤ p = omega (arith, leb-false p (length s) h) in
        let g = sym (rows_none binary_table p) ∙ ap (try_rows binary_table p) (sym (drop_of_length-le s l)) ∙ f in
        absurd cc

pub binary_accounted : (κs : Lfts 1) (a : Dens κs explain_binary.Kinds.ps) (t : AtExit (ended_of 1 explain_binary.Kinds.ps explain_binary.Kinds.r) κs) (q : event36.ATEvent) (past : ℕ) (w : PartWalk)
    → explain_binary.Reads.Post κs a (Ok (Some (record { answer = record { event = q; past = past }; fields = w }))) t
    → let e = event_to (w36.event_of q) past in Accounts (read_kinds e) a.0.now a.1.0 (left a.0.now w) (read_values e)
binary_accounted κs a t q past w x = go (binary_checks binary_table p (drop p s)) (try_rows binary_table p (drop p s)) refl x
  where
    s : List ℕ
    s = a.0.now

    p : ℕ
    p = a.1.0

    e : ReadEvent
    e = event_to (w36.event_of q) past

    go : (b : Binary) (r : Tried) → try_rows binary_table p (drop p s) ≡ r
        → ExplainsBinary b r (λ d. parts_by (binary_shape (length s) d) s p) (some (accepted e (left s w))) → Accounts (read_kinds e) s p (left s w) (read_values e)
    go not_binary r f x = let n = x.0 in absurd cc
    go (binary checks) reader.not_binary f x = absurd x
    go (binary checks) (reader.tried d) f x =
        let g : d ≡ good e = sym x.answers in
        let h = f ∙ ap reader.tried g in
        by_shape (binary_shape (length s) e) (read_kinds e) s p (left s w) (read_values e) (tried-inside s p e h) (x.places ∙ rw g) (binary-event-came s p e h)
