-- The explaining functions give the true reason of the readers' own answers. Both sides are the functions' contracts: `explain_frame.Reads.Post` is
-- what `frame::explain` ensures, `read_frame_lem.Reads.Post` what `edm::frame::read` does.
use mathlib.Core.Path.{◌≡◌, refl, sym, ◌∙◌}
use mathlib.Core.List.{List}
use lib.ListN.{length, drop}
use contract.Lifetimes.{Lfts}
use denote.Triple.Clauses.{AtExit}
use borrow.Fn.Kinds.{Dens, res_t, ended_of}
use Rattle.at.specs.Refusal.{OrRefused}
use Rattle.at.specs.Event.{ReadEvent}
use Rattle.at.specs.Binary as reader
use Rattle.at.specs.W26 as w26
use Rattle.at.specs.W36 as w36
use Rattle.at.specs.Response as response
use Rattle.edm.specs.Packet as packet
use Rattle.edm.proofs.frame.read as read_frame_lem
use Rattle.at.proofs.response.read as read_response_lem
use Rattle.at.proofs.w26.read as read_w26
use Rattle.at.proofs.w36.read as read_w36
use Rattle.at.proofs.w36.try_parse_binary as read_binary
use Rattle.checks.specs.Check.{Check}
use Rattle.checks.specs.Line.{line_checks}
use Rattle.checks.specs.Response.{response_checks}
use Rattle.checks.specs.Frame.{frame_checks}
use Rattle.checks.specs.Binary.{Binary, not_binary, binary, binary_checks}
use Rattle.checks.specs.Part.{Part, parts_by, binary_shape}
use Rattle.checks.specs.Explained.{Explanation, accepted, refused_by, Explains, IfBinary, none, some, ExplainsBinary, TrueExplanation, TrueBinary, shown_frame, shown_w26, shown_w36, shown_response, shown_binary}
use Rattle.checks.proofs.CheckLaws.{true_reason, all_hold_lem}
use Rattle.checks.proofs.frame.explain as explain_frame
use Rattle.checks.proofs.response.explain as explain_response
use Rattle.checks.proofs.w26.explain as explain_w26
use Rattle.checks.proofs.w36.explain as explain_w36
use Rattle.checks.proofs.binary.explain as explain_binary

-- for every list of checks, and an answer that the reader gives
pub true_explanation : {A : Type 0} (checks : List Check) (answer q : OrRefused A) (parts : A → List Part) (x : Explanation A)
    → Explains checks answer parts x → q ≡ answer → TrueExplanation checks q x
true_explanation checks answer q parts (accepted a ps) e r = (all_hold_lem checks (sym e.names), r ∙ sym e.answers)
true_explanation checks answer q parts (refused_by c n b) e r = (true_reason checks c n b (sym e.names), r ∙ sym e.answers)

true-binary : (b : Binary) (t q : reader.Tried) (parts : ReadEvent → List Part) (x : IfBinary) → ExplainsBinary b t parts x → q ≡ t → TrueBinary b q x
true-binary not_binary t q parts x e r = (e.0, r ∙ e.1)
true-binary (binary checks) t q parts none e r = absurd e
true-binary (binary checks) reader.not_binary q parts (some x) e r = absurd e
true-binary (binary checks) (reader.tried a) q parts (some x) e r = (a, r, true_explanation checks a a parts x e refl)

-- a frame: whatever `frame::explain` and `edm::frame::read` answer to the same slice
pub frame-explained : (κs : Lfts 1) (a : Dens κs explain_frame.Kinds.ps) (x : (res_t explain_frame.Kinds.r κs).Denot) (q : (res_t read_frame_lem.Kinds.r κs).Denot)
    (s : AtExit (ended_of 1 explain_frame.Kinds.ps explain_frame.Kinds.r) κs) (t : AtExit (ended_of 1 read_frame_lem.Kinds.ps read_frame_lem.Kinds.r) κs)
    → explain_frame.Reads.Post κs a x s → read_frame_lem.Reads.Post κs a q t
    → TrueExplanation (frame_checks a.0.now) (packet.shown q) (shown_frame a.0.now x)
frame-explained κs a x q s t e r = true_explanation _ _ _ _ (shown_frame a.0.now x) e r

-- a line that starts at a place
pub w26-explained : (κs : Lfts 1) (a : Dens κs explain_w26.Kinds.ps) (x : (res_t explain_w26.Kinds.r κs).Denot) (q : (res_t read_w26.Kinds.r κs).Denot)
    (s : AtExit (ended_of 1 explain_w26.Kinds.ps explain_w26.Kinds.r) κs) (t : AtExit (ended_of 1 read_w26.Kinds.ps read_w26.Kinds.r) κs)
    → explain_w26.Reads.Post κs a x s → read_w26.Reads.Post κs a q t
    → TrueExplanation (line_checks w26.w26 a.1.0 (drop a.1.0 a.0.now)) (w26.shown q) (shown_w26 a.0.now x)
w26-explained κs a x q s t e r = true_explanation _ _ _ _ (shown_w26 a.0.now x) e r

pub w36-explained : (κs : Lfts 1) (a : Dens κs explain_w36.Kinds.ps) (x : (res_t explain_w36.Kinds.r κs).Denot) (q : (res_t read_w36.Kinds.r κs).Denot)
    (s : AtExit (ended_of 1 explain_w36.Kinds.ps explain_w36.Kinds.r) κs) (t : AtExit (ended_of 1 read_w36.Kinds.ps read_w36.Kinds.r) κs)
    → explain_w36.Reads.Post κs a x s → read_w36.Reads.Post κs a q t
    → TrueExplanation (line_checks w36.w36 a.1.0 (drop a.1.0 a.0.now)) (w36.shown q) (shown_w36 a.0.now x)
w36-explained κs a x q s t e r = true_explanation _ _ _ _ (shown_w36 a.0.now x) e r

-- a response that starts at a place
pub response-explained : (κs : Lfts 1) (a : Dens κs explain_response.Kinds.ps) (x : (res_t explain_response.Kinds.r κs).Denot) (q : (res_t read_response_lem.Kinds.r κs).Denot)
    (s : AtExit (ended_of 1 explain_response.Kinds.ps explain_response.Kinds.r) κs) (t : AtExit (ended_of 1 read_response_lem.Kinds.ps read_response_lem.Kinds.r) κs)
    → explain_response.Reads.Post κs a x s → read_response_lem.Reads.Post κs a q t
    → TrueExplanation (response_checks a.1.0 (drop a.1.0 a.0.now)) (response.shown q) (shown_response a.0.now x)
response-explained κs a x q s t e r = true_explanation _ _ _ _ (shown_response a.0.now x) e r

-- a binary event that starts at a place, or none
pub binary-explained : (κs : Lfts 1) (a : Dens κs explain_binary.Kinds.ps) (x : (res_t explain_binary.Kinds.r κs).Denot) (q : (res_t read_binary.Kinds.r κs).Denot)
    (s : AtExit (ended_of 1 explain_binary.Kinds.ps explain_binary.Kinds.r) κs) (t : AtExit (ended_of 1 read_binary.Kinds.ps read_binary.Kinds.r) κs)
    → explain_binary.Reads.Post κs a x s → read_binary.Reads.Post κs a q t
    → TrueBinary (binary_checks w36.binary_table a.1.0 (drop a.1.0 a.0.now)) (w36.shown_binary q) (shown_binary a.0.now x)
binary-explained κs a x q s t e r = true-binary (binary_checks w36.binary_table a.1.0 (drop a.1.0 a.0.now)) _ _ (λ d. parts_by (binary_shape (length a.0.now) d) a.0.now a.1.0) (shown_binary a.0.now x) e r
