-- What an explanation says, and when it is the right one: it names the first check that does not hold, answers as the reader does, and gives the
-- fields of what the reader accepted.
use Rattle.std.specs.Prelude.{ℕ, ◌≡◌, List, [], true, Option, Some, None, Result, Ok, Err}
use Rattle.at.specs.Refusal as at
use Rattle.at.specs.Refusal.{Refusal, OrRefused, good, refused}
use Rattle.at.specs.Event.{ReadEvent, read_as}
use Rattle.at.specs.W26 as w26
use Rattle.at.specs.W36 as w36
use Rattle.at.specs.Binary as reader
use Rattle.at.specs.Response.{Response, response_of}
use Rattle.edm.specs.Refusal as edm
use Rattle.edm.specs.Packet.{Packet, packet_of}
use Rattle.checks.specs.Check.{Check, Finding, all_hold, broken, first_broken, every_holds, TrueReason}
use Rattle.checks.specs.Binary.{Binary, not_binary, binary}
use Rattle.checks.specs.Part.{Part, left}
use Rattle.checks.specs.declared.CheckName.{CheckName}
use Rattle.at.specs.declared.AtPacketError.{AtPacketError}
use Rattle.at.specs.declared.ReadEvent as declared
use Rattle.at.specs.declared.w26.ATEvent as event26
use Rattle.at.specs.declared.w36.ATEvent as event36
use Rattle.at.specs.declared.response.ATResponse.{ATResponse}
use Rattle.edm.specs.declared.EdmPacket.{EdmPacket}
use Rattle.edm.specs.declared.EdmPacketError.{EdmPacketError}
use Rattle.checks.specs.declared.Accepted.{Accepted}
use Rattle.checks.specs.declared.Refused.{Refused}

-- an explanation of an answer of a reader: what was read, with its fields; or the check, the refusal and the byte
pub data Explanation (A : Type 0) : Type 0 where
  accepted : A → List Part → Explanation A
  refused_by : CheckName → Refusal → ℕ → Explanation A

abbrev pub finding_of : {A : Type 0} → Explanation A → Finding
finding_of (accepted a ps) = all_hold
finding_of (refused_by c n b) = broken c n b

abbrev pub answer_of : {A : Type 0} → Explanation A → OrRefused A
answer_of (accepted a ps) = good a
answer_of (refused_by c n b) = refused n

abbrev pub fields_of : {A : Type 0} → Explanation A → List Part
fields_of (accepted a ps) = ps
fields_of (refused_by c n b) = []

-- the fields of an answer; a refusal has none
abbrev pub fields_in : {A : Type 0} → (A → List Part) → OrRefused A → List Part
fields_in parts (good a) = parts a
fields_in parts (refused n) = []

-- x explains the reader's answer to an input that has these checks
pub record Explains {A : Type 0} (checks : List Check) (answer : OrRefused A) (parts : A → List Part) (x : Explanation A) : Type 0 where
  pub names : finding_of x ≡ first_broken checks
  pub answers : answer_of x ≡ answer
  pub places : fields_of x ≡ fields_in parts answer

-- of bytes that may be no binary event at all
pub data IfBinary : Type 0 where
  none : IfBinary
  some : Explanation ReadEvent → IfBinary

abbrev pub ExplainsBinary : Binary → reader.Tried → (ReadEvent → List Part) → IfBinary → Type 0
ExplainsBinary not_binary t parts x = (x ≡ none) × (t ≡ reader.not_binary)
ExplainsBinary (binary checks) t parts none = ⊥
ExplainsBinary (binary checks) reader.not_binary parts (some x) = ⊥
ExplainsBinary (binary checks) (reader.tried a) parts (some x) = Explains checks a parts x

-- the true reason of an answer q that a reader gave: where it was accepted, every check holds; where it was refused, the named check does not
-- hold, every check before it does, and the refusal is that of the check. That each explanation is true is proved (proofs/Explanations.antt)
abbrev pub TrueExplanation : {A : Type 0} → List Check → OrRefused A → Explanation A → Type 0
TrueExplanation checks q (accepted a ps) = (every_holds checks ≡ true) × (q ≡ good a)
TrueExplanation checks q (refused_by c n b) = TrueReason checks c n b × (q ≡ refused n)

abbrev pub TrueBinary : Binary → reader.Tried → IfBinary → Type 0
TrueBinary not_binary q x = (x ≡ none) × (q ≡ reader.not_binary)
TrueBinary (binary checks) q none = ⊥
TrueBinary (binary checks) q (some x) = (a : OrRefused ReadEvent) × (q ≡ reader.tried a) × TrueExplanation checks a x

-- what an answer says of the input s, where `value` gives what was read and `refusal` the refusal
abbrev pub shown : {A B E : Type 0} → (A → B) → (E → Refusal) → List ℕ → Result (Accepted A) (Refused E) → Explanation B
shown value refusal s (Ok a) = accepted (value a.answer) (left s a.fields)
shown value refusal s (Err r) = refused_by r.check (refusal r.error) r.byte

-- what each answer says of the input s
abbrev pub shown_frame : List ℕ → Result (Accepted EdmPacket) (Refused EdmPacketError) → Explanation Packet
shown_frame = shown packet_of edm.refusal_of

abbrev pub shown_w26 : List ℕ → Result (Accepted (declared.ReadEvent event26.ATEvent)) (Refused AtPacketError) → Explanation ReadEvent
shown_w26 = shown (read_as w26.event_of) at.refusal_of

abbrev pub shown_w36 : List ℕ → Result (Accepted (declared.ReadEvent event36.ATEvent)) (Refused AtPacketError) → Explanation ReadEvent
shown_w36 = shown (read_as w36.event_of) at.refusal_of

abbrev pub shown_response : List ℕ → Result (Accepted ATResponse) (Refused AtPacketError) → Explanation Response
shown_response = shown response_of at.refusal_of

abbrev pub shown_binary : List ℕ → Result (Option (Accepted (declared.ReadEvent event36.ATEvent))) (Refused AtPacketError) → IfBinary
shown_binary s (Ok None) = none
shown_binary s (Ok (Some a)) = some (accepted (read_as w36.event_of a.answer) (left s a.fields))
shown_binary s (Err r) = some (refused_by r.check (at.refusal_of r.error) r.byte)
