-- Each public promise allows one outcome only: two answers that meet it at the same input say the same, the check, the refusal and the byte, or what
-- was read with every field's name, place and length. The promises are taken from the functions' own contracts.
use mathlib.Core.Path.{◌≡◌, sym, ap, ◌∙◌}
use mathlib.Core.List.{List}
use lib.ListN.{length, drop}
use contract.Lifetimes.{Lfts}
use denote.Triple.Clauses.{AtExit}
use borrow.Fn.Kinds.{Dens, res_t, ended_of}
use Rattle.text.proofs.OneOutcome.{One}
use Rattle.at.specs.Refusal.{OrRefused}
use Rattle.at.specs.Event.{ReadEvent}
use Rattle.at.specs.Binary as reader
use Rattle.checks.specs.Check.{Check}
use Rattle.at.specs.W36.{binary_table}
use Rattle.checks.specs.Binary.{Binary, not_binary, binary, binary_checks}
use Rattle.checks.specs.Part.{Part}
use Rattle.checks.specs.Part as part
use Rattle.checks.specs.Explained.{Explanation, accepted, refused_by, Explains, IfBinary, none, some, ExplainsBinary, shown_frame, shown_w26, shown_w36, shown_response, shown_binary}
use Rattle.checks.proofs.frame.explain as explain_frame
use Rattle.checks.proofs.response.explain as explain_response
use Rattle.checks.proofs.w26.explain as explain_w26
use Rattle.checks.proofs.w36.explain as explain_w36
use Rattle.checks.proofs.binary.explain as explain_binary
use Rattle.checks.proofs.part.PartWalk.next as next
use Rattle.checks.proofs.refusal.at_number as at_number
use Rattle.checks.proofs.refusal.edm_number as edm_number

pub one_explanation : {A : Type 0} (checks : List Check) (answer : OrRefused A) (parts : A → List Part) (x y : Explanation A)
    → Explains checks answer parts x → Explains checks answer parts y → x ≡ y
one_explanation checks answer parts (accepted a ps) (accepted b qs) e f =
    let h = e.answers ∙ sym f.answers in
    let g : a ≡ b = cc in
    let k : ps ≡ qs = e.places ∙ sym f.places in
    rw (g, k)
one_explanation checks answer parts (accepted a ps) (refused_by c n b) e f = let h = e.answers ∙ sym f.answers in absurd cc
one_explanation checks answer parts (refused_by c n b) (accepted a ps) e f = let h = e.answers ∙ sym f.answers in absurd cc
one_explanation checks answer parts (refused_by c n b) (refused_by d m k) e f =
    let h = e.names ∙ sym f.names in
    let p : c ≡ d = cc in
    let q : n ≡ m = cc in
    let r : b ≡ k = cc in
    rw (p, q, r)

one-binary : (b : Binary) (t : reader.Tried) (parts : ReadEvent → List Part) (x y : IfBinary) → ExplainsBinary b t parts x → ExplainsBinary b t parts y → x ≡ y
one-binary not_binary t parts x y e f = e.0 ∙ sym f.0
one-binary (binary checks) t parts none y e f = absurd e
one-binary (binary checks) t parts (some x) none e f = absurd f
one-binary (binary checks) reader.not_binary parts (some x) (some y) e f = absurd e
one-binary (binary checks) (reader.tried a) parts (some x) (some y) e f = ap some (one_explanation checks a parts x y e f)

pub one-frame : (κs : Lfts 1) (a : Dens κs explain_frame.Kinds.ps) (x y : (res_t explain_frame.Kinds.r κs).Denot) (s t : AtExit (ended_of 1 explain_frame.Kinds.ps explain_frame.Kinds.r) κs)
    → explain_frame.Reads.Post κs a x s → explain_frame.Reads.Post κs a y t → shown_frame a.0.now x ≡ shown_frame a.0.now y
one-frame κs a x y s t p q = one_explanation _ _ _ (shown_frame a.0.now x) (shown_frame a.0.now y) p q

pub one-w26 : (κs : Lfts 1) (a : Dens κs explain_w26.Kinds.ps) (x y : (res_t explain_w26.Kinds.r κs).Denot) (s t : AtExit (ended_of 1 explain_w26.Kinds.ps explain_w26.Kinds.r) κs)
    → explain_w26.Reads.Post κs a x s → explain_w26.Reads.Post κs a y t → shown_w26 a.0.now x ≡ shown_w26 a.0.now y
one-w26 κs a x y s t p q = one_explanation _ _ _ (shown_w26 a.0.now x) (shown_w26 a.0.now y) p q

pub one-w36 : (κs : Lfts 1) (a : Dens κs explain_w36.Kinds.ps) (x y : (res_t explain_w36.Kinds.r κs).Denot) (s t : AtExit (ended_of 1 explain_w36.Kinds.ps explain_w36.Kinds.r) κs)
    → explain_w36.Reads.Post κs a x s → explain_w36.Reads.Post κs a y t → shown_w36 a.0.now x ≡ shown_w36 a.0.now y
one-w36 κs a x y s t p q = one_explanation _ _ _ (shown_w36 a.0.now x) (shown_w36 a.0.now y) p q

pub one-response : (κs : Lfts 1) (a : Dens κs explain_response.Kinds.ps) (x y : (res_t explain_response.Kinds.r κs).Denot) (s t : AtExit (ended_of 1 explain_response.Kinds.ps explain_response.Kinds.r) κs)
    → explain_response.Reads.Post κs a x s → explain_response.Reads.Post κs a y t → shown_response a.0.now x ≡ shown_response a.0.now y
one-response κs a x y s t p q = one_explanation _ _ _ (shown_response a.0.now x) (shown_response a.0.now y) p q

pub one-binary-event : (κs : Lfts 1) (a : Dens κs explain_binary.Kinds.ps) (x y : (res_t explain_binary.Kinds.r κs).Denot) (s t : AtExit (ended_of 1 explain_binary.Kinds.ps explain_binary.Kinds.r) κs)
    → explain_binary.Reads.Post κs a x s → explain_binary.Reads.Post κs a y t → shown_binary a.0.now x ≡ shown_binary a.0.now y
one-binary-event κs a x y s t p q = one-binary (binary_checks binary_table a.1.0 (drop a.1.0 a.0.now)) (reader.try_rows binary_table a.1.0 (drop a.1.0 a.0.now)) (λ d. part.parts_by (part.binary_shape (length a.0.now) d) a.0.now a.1.0) (shown_binary a.0.now x) (shown_binary a.0.now y) p q

-- a step of the walk: the field, and all that are left
pub one-next : (κs : Lfts 1) (a : Dens κs next.Kinds.ps) (x y : (res_t next.Kinds.r κs).Denot) (s t : AtExit (ended_of 1 next.Kinds.ps next.Kinds.r) κs)
    → next.Reads.Post κs a x s → next.Reads.Post κs a y t → part.shown a.1.0.now x ≡ part.shown a.1.0.now y
one-next κs a x y s t p q = p ∙ sym q

pub one-at-number : One 0 at_number.Kinds.ps at_number.Kinds.r at_number.Reads.Post (λ κs x s. x)
one-at-number κs a x y s t p q = p ∙ sym q

pub one-edm-number : One 0 edm_number.Kinds.ps edm_number.Kinds.r edm_number.Reads.Post (λ κs x s. x)
one-edm-number κs a x y s t p q = p ∙ sym q
