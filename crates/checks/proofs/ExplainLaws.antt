-- Laws of explanations: one that names what the checks find and answers as the reader does is right, for each kind of input.
use Prim.Native.Nat.{ℕ, ◌≤◌}
use mathlib.Core.Path.{◌≡◌, refl, sym, ap, ◌∙◌}
use mathlib.Core.List.{List}
use mathlib.Core.Bool.{Bool, true, false}
use native.Mathlib.Omega.{arith}
use lib.ListN.{length, drop}
use Rattle.at.specs.Refusal.{Refusal, number_of, refusal_of, OrRefused, good, refused}
use Rattle.at.specs.Event.{ReadEvent}
use Rattle.at.specs.Line.{Radio, read_line}
use Rattle.at.specs.Response.{Response, read_response}
use Rattle.at.specs.Binary as reader
use Rattle.at.specs.Binary.{try_rows}
use Rattle.at.specs.W36.{binary_table}
use Rattle.at.specs.declared.AtPacketError.{AtPacketError}
use Rattle.at.specs.declared.AtPacketError.TheVariants as error
use Rattle.edm.specs.Packet.{Packet}
use Rattle.edm.specs.Frame.{read_frame}
use Rattle.checks.specs.Check.{Check, all_hold, broken, first_broken}
use Rattle.checks.specs.Line.{inner, line_checks}
use Rattle.checks.specs.Response.{response_checks}
use Rattle.checks.specs.Binary.{Binary, not_binary, binary, binary_checks}
use Rattle.checks.specs.Frame.{frame_checks}
use Rattle.checks.specs.Part.{Part, left, parts_by, frame_parts, packet_shape, line_shape, binary_shape, response_shape}
use Rattle.checks.specs.Explained.{accepted, refused_by, Explains, none, some, ExplainsBinary}
use Rattle.checks.specs.Steps.{line_reason, response_reason, binary_reason, frame_reason, at_reason}
use Rattle.checks.specs.declared.CheckName.{CheckName}
use Rattle.checks.specs.declared.part.Shape.{Shape}
use Rattle.checks.specs.declared.part.PartWalk.{PartWalk}
use Rattle.checks.proofs.TextTie.{Chooses}
use Rattle.checks.proofs.LineTie.{found_line, line_found}
use Rattle.checks.proofs.ResponseTie.{found_response, response-found}
use Rattle.checks.proofs.BinaryTie.{found_tried, binary-found}
use Rattle.checks.proofs.FrameTie.{found_frame, at-refused, frame_found}

module _ {A : Type 0} (checks : List Check) (answer : OrRefused A) (parts : A → List Part) where
  by-check : (c : CheckName) (n : Refusal) (b : ℕ) → answer ≡ refused n → broken c n b ≡ first_broken checks → Explains checks answer parts (refused_by c n b)
  by-check c n b e f = record { names = f; answers = sym e; places = rw e }

  by_answer : (a : A) (ps : List Part) → answer ≡ good a → first_broken checks ≡ all_hold → ps ≡ parts a → Explains checks answer parts (accepted a ps)
  by_answer a ps e f g = record { names = sym f; answers = sym e; places = rw e g }

-- a walk that stands at the start
abbrev pub walk_over : Bool → Shape → ℕ → PartWalk
walk_over framed k p = record { framed = framed; shape = k; turn = 0; at = p }

module _ (radio : Radio) (chooses : Chooses radio.rows) (s : List ℕ) (p : ℕ) where
  abbrev line : List ℕ
  line = drop p s

  abbrev parts : ReadEvent → List Part
  parts e = parts_by (line_shape (length s) e) s p

  pub line_accepted : (e : ReadEvent) (k : Shape) → read_line radio p line ≡ good e → k ≡ line_shape (length s) e
      → Explains (line_checks radio p line) (read_line radio p line) parts (accepted e (left s (walk_over false k p)))
  unfolding left parts_by
  line_accepted e k a h = by_answer _ _ parts e _ a (line_found radio chooses p line ∙ ap (found_line radio p line) a) (rw h)

  pub line_refused : (c : CheckName) (n : Refusal) (b : ℕ) → read_line radio p line ≡ refused n → broken c n b ≡ line_reason p line (radio.kept (inner line)) n
      → Explains (line_checks radio p line) (read_line radio p line) parts (refused_by c n b)
  line_refused c n b a h = by-check _ _ parts c n b a (h ∙ sym (line_found radio chooses p line ∙ ap (found_line radio p line) a))

module _ (s : List ℕ) (p : ℕ) where
  abbrev rest : List ℕ
  rest = drop p s

  abbrev response_parts : Response → List Part
  response_parts r = parts_by (response_shape p r) s p

  pub response-accepted : (r : Response) (k : Shape) → read_response p rest ≡ good r → k ≡ response_shape p r
      → Explains (response_checks p rest) (read_response p rest) response_parts (accepted r (left s (walk_over false k p)))
  unfolding left parts_by
  response-accepted r k a h = by_answer _ _ response_parts r _ a (response-found p rest ∙ ap (found_response p rest) a) (rw h)

  pub response-refused : (c : CheckName) (n : Refusal) (b : ℕ) → read_response p rest ≡ refused n → broken c n b ≡ response_reason p rest n
      → Explains (response_checks p rest) (read_response p rest) response_parts (refused_by c n b)
  response-refused c n b a h = by-check _ _ response_parts c n b a (h ∙ sym (response-found p rest ∙ ap (found_response p rest) a))

  abbrev binary_parts : ReadEvent → List Part
  binary_parts e = parts_by (binary_shape (length s) e) s p

  pub binary-none : try_rows binary_table p rest ≡ reader.not_binary → ExplainsBinary (binary_checks binary_table p rest) (try_rows binary_table p rest) binary_parts none
  binary-none a = rw a (go (binary_checks binary_table p rest) (rw a at (binary-found p rest)))
    where
      go : (b : Binary) → found_tried binary_table p rest b reader.not_binary → ExplainsBinary b reader.not_binary binary_parts none
      go not_binary f = (refl, refl)
      go (binary checks) f = absurd f

  pub binary-accepted : (e : ReadEvent) (k : Shape) → try_rows binary_table p rest ≡ reader.tried (good e) → k ≡ binary_shape (length s) e
      → ExplainsBinary (binary_checks binary_table p rest) (try_rows binary_table p rest) binary_parts (some (accepted e (left s (walk_over false k p))))
  unfolding left parts_by
  binary-accepted e k a h = rw a (go (binary_checks binary_table p rest) (rw a at (binary-found p rest)))
    where
      go : (b : Binary) → found_tried binary_table p rest b (reader.tried (good e)) → ExplainsBinary b (reader.tried (good e)) binary_parts (some (accepted e (left s (walk_over false k p))))
      go not_binary f = absurd f
      go (binary checks) f = by_answer checks (good e) binary_parts e _ refl f (rw h)

  pub binary-refused : (c : CheckName) (n : Refusal) (b : ℕ) → try_rows binary_table p rest ≡ reader.tried (refused n) → broken c n b ≡ binary_reason binary_table p rest n
      → ExplainsBinary (binary_checks binary_table p rest) (try_rows binary_table p rest) binary_parts (some (refused_by c n b))
  binary-refused c n b a h = rw a (go (binary_checks binary_table p rest) (rw a at (binary-found p rest)))
    where
      go : (d : Binary) → found_tried binary_table p rest d (reader.tried (refused n)) → ExplainsBinary d (reader.tried (refused n)) binary_parts (some (refused_by c n b))
      go not_binary f = absurd f
      go (binary checks) f = by-check checks (refused n) binary_parts c n b refl (h ∙ sym f)

module _ (s : List ℕ) where
  pub frame-accepted : (q : Packet) (k : Shape) → read_frame s ≡ good q → k ≡ packet_shape q
      → Explains (frame_checks s) (read_frame s) (frame_parts s) (accepted q (left s (walk_over true k 0)))
  unfolding left frame_parts
  frame-accepted q k a h = by_answer _ _ (frame_parts s) q _ a (frame_found s ∙ ap (found_frame s) a) (rw h)

  pub frame_refused : (c : CheckName) (n : Refusal) (b : ℕ) → read_frame s ≡ refused n → broken c n b ≡ frame_reason s n
      → Explains (frame_checks s) (read_frame s) (frame_parts s) (refused_by c n b)
  frame_refused c n b a h = by-check _ _ (frame_parts s) c n b a (h ∙ sym (frame_found s ∙ ap (found_frame s) a))

-- a refusal of the AT layer in a frame
from_eleven : (e : AtPacketError) → 11 ≤ number_of (refusal_of e)
from_eleven error.Utf8DecodeFailed = omega arith
from_eleven error.FramingDecodeFailed = omega arith
from_eleven error.TypeDecodeUnsupported = omega arith
from_eleven (error.TypeDecodeParameterMissing field) = omega arith
from_eleven (error.TypeDecodeParameterDataTypeInvalid field why) = omega arith
from_eleven error.EventUnknown = omega arith

pub at-refusal : (s : List ℕ) (e : AtPacketError) → at_reason s (refusal_of e) ≡ frame_reason s (refusal_of e)
at-refusal s e = sym (at-refused s (refusal_of e) (from_eleven e))
