-- What the private steps of the code say. No promise of a public function cites this file.
use Rattle.std.specs.Prelude.{ℕ, List, ◌++◌, map, cond, eqb, Option, Some, None}
use Prim.Native.Char.{code}
use Rattle.text.specs.Bytes.{bytes}
use Rattle.text.specs.Decimal.{decimal}
use Rattle.at.specs.Event.{Kind, bits, text, ip_type, bt_type, protocol, reason, kinds_of, Event, event}
use Rattle.render.specs.Words.{values_line}
use Rattle.render.specs.Event.{Case, case_of}
use Rattle.render.specs.declared.label.Word.{Word}

-- a name, and the number of the field right after it, where it is about one
abbrev pub with_field : List ℕ → Option ℕ → List ℕ
with_field name None = name
with_field name (Some i) = name ++ decimal i

abbrev pub said : Word → List ℕ
said w = with_field w.name.now w.field

-- the two parts of an event's line: the name of its case, and its values
abbrev pub case_word : List Case → Event → List ℕ
case_word cases (event r vs) = bytes (case_of cases r)

abbrev pub fields_line : List ℕ → Event → List ℕ
fields_line src (event r vs) = values_line (kinds_of r) src vs

-- the kind of a letter; a number's width does not matter here
unfoldable pub kind_of : ℕ → Kind
kind_of letter =
    cond (eqb letter (code "i")) ip_type
    (cond (eqb letter (code "t")) bt_type (cond (eqb letter (code "p")) protocol (cond (eqb letter (code "r")) reason (cond (eqb letter (code "s")) text (bits 16)))))

abbrev pub kinds_in : List ℕ → List Kind
kinds_in letters = map kind_of letters
