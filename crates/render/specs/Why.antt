-- Which field, and why (request 5 of document 02): what is printed after a refusal that carries a field. Nothing is printed after any other answer.
use Rattle.std.specs.Prelude.{ℕ, List, [], ◌++◌}
use Rattle.text.specs.Bytes.{bytes}
use Rattle.text.specs.Decimal.{decimal}
use Rattle.text.specs.declared.number.NumberError.TheVariants.{Empty, Byte, Large}
use Rattle.at.specs.Refusal.{Refusal, no, missing, invalid, OrRefused, good, refused}
use Rattle.at.specs.Event.{ReadEvent}
use Rattle.at.specs.Binary.{Tried, not_binary, tried}
use Rattle.at.specs.declared.FieldError.{FieldError}
use Rattle.at.specs.declared.FieldError.TheVariants.{NoNumber, NotListed}
use Rattle.edm.specs.Packet.{Packet}
use Rattle.render.specs.Event.{Case, answer_line}
use Rattle.render.specs.Walk.{tried_line}
use Rattle.render.specs.Frame.{frame_line}

abbrev pub reason_word : FieldError → List ℕ
reason_word (NoNumber Empty) = bytes " empty"
reason_word (NoNumber Byte) = bytes " byte"
reason_word (NoNumber Large) = bytes " large"
reason_word NotListed = bytes " list"

abbrev pub field_word : ℕ → List ℕ
field_word i = bytes " field " ++ decimal i

-- what a refusal carries: 14 the field, 15 the field and the reason
abbrev pub carried_line : Refusal → List ℕ
carried_line (no n) = []
carried_line (missing i) = field_word i
carried_line (invalid i why) = field_word i ++ reason_word why

abbrev pub carried_by : {A : Type 0} → OrRefused A → List ℕ
carried_by (good a) = []
carried_by (refused n) = carried_line n

-- the line of an answer, and what it carries
abbrev pub why_line : List Case → List ℕ → OrRefused ReadEvent → List ℕ
why_line cases src a = answer_line cases src a ++ carried_by a

abbrev pub tried_carries : Tried → List ℕ
tried_carries not_binary = []
tried_carries (tried a) = carried_by a

abbrev pub why_tried_line : List ℕ → Tried → List ℕ
why_tried_line src t = tried_line src t ++ tried_carries t

abbrev pub why_frame_line : List ℕ → OrRefused Packet → List ℕ
why_frame_line src a = frame_line src a ++ carried_by a
