-- The checks of an event line, and the reader's answer to the same line, for every radio whose table says which row a line has.
use Prim.Native.Nat.{ℕ, ◌+◌, ◌-◌, ◌≤◌}
use mathlib.Core.Path.{◌≡◌, refl, ◌∙◌}
use mathlib.Core.List.{List, [], ◌∷◌}
use mathlib.Core.Bool.{Bool, true, false, cond, not, ◌||◌}
use native.Mathlib.Omega.{arith}
use lib.Dec.{leb, ltb}
use lib.ListN.{length, take, drop}
use borrow.Author.Tests.{ne_eqb}
use Rattle.text.specs.Bytes.{bytes}
use Rattle.text.specs.Find.{crlf}
use Rattle.text.specs.Utf8.{utf8, valid_up_to, inside_character}
use Rattle.at.specs.Refusal.{no, missing, invalid, number_of, OrRefused, good, refused}
use Rattle.at.specs.Event.{Row, Event, ReadEvent, up_to, Read, values, take_kinds, kinds_of, with_values, read_row}
use Rattle.at.specs.Line.{Radio, before, ends_in, body, ended, framed, rows_named, fields_after, by_name, read_text, read_framed, read_line}
use Rattle.at.proofs.LineLaws.{all_but_two}
use Rattle.checks.specs.Check.{Finding, all_hold, broken, first_broken}
use Rattle.checks.specs.Line.{text_checks, inner, line_checks}
use Rattle.checks.specs.Steps.{framing_reason, line_reason}
use Rattle.checks.specs.declared.CheckName.TheVariants.{Utf8, LineOfTwo, PlaceTwo, LineEnd}
use Rattle.checks.proofs.CheckLaws.{below}
use Rattle.checks.proofs.FieldTie.{Late, fields_late}
use Rattle.checks.proofs.TextTie.{Choice, Chooses, found_text, text-found}

-- a refusal's number is k or more
abbrev pub From : {A : Type 0} → ℕ → OrRefused A → Type 0
From k (good a) = Unit {0}
From k (refused n) = k ≤ number_of n

pub row_from : (r : Row) (m : ℕ) (o : OrRefused Read) → Late 1 m o → From 13 (with_values r o)
row_from r m (good (values vs fs)) l = tt
row_from r m (refused (no n)) l = omega arith
row_from r m (refused (missing i)) l = omega arith
row_from r m (refused (invalid i why)) l = omega arith

text-from : (rows : List Row) → Chooses rows → (p : ℕ) (t : List ℕ) → From 13 (read_text rows p t)
unfolding read_text read_row
text-from rows chooses p t = go (rows_named rows (before (bytes ":") t)) (chooses (before (bytes ":") t) (fields_after p t))
  where
    go : (rs : List Row) → Choice rs (fields_after p t) → From 13 (by_name rs (fields_after p t))
    go [] c = omega arith
    go (r ∷ rs) c = rw c.reads (row_from c.row _ (take_kinds 1 (kinds_of c.row) (fields_after p t)) (fields_late 1 (kinds_of c.row) (fields_after p t)))

-- what the checks of a line find, by the reader's answer
abbrev found_event : Radio → ℕ → List ℕ → OrRefused Event → Finding
found_event radio p line (good e) = all_hold
found_event radio p line (refused n) = line_reason p line (radio.kept (inner line)) n

abbrev pub found_line : Radio → ℕ → List ℕ → OrRefused ReadEvent → Finding
found_line radio p line (good e) = all_hold
found_line radio p line (refused n) = line_reason p line (radio.kept (inner line)) n

upto_found : (radio : Radio) (p : ℕ) (line : List ℕ) (q : ℕ) (o : OrRefused Event) → found_line radio p line (up_to q o) ≡ found_event radio p line o
upto_found radio p line q (good e) = refl
upto_found radio p line q (refused n) = refl

module _ (radio : Radio) (chooses : Chooses radio.rows) (p : ℕ) (line : List ℕ) where
  -- what is found of the text, where the framing holds
  abbrev t : List ℕ
  t = radio.kept (inner line)

  as_line : leb 2 (length line) ≡ true → (o : OrRefused Event) → From 13 o → found_text (p + 2) t o ≡ found_event radio p line o
  unfolding line_reason
  as_line two (good e) f = refl
  as_line two (refused n) f = rw (ne_eqb (number_of n) 11 (λ e. omega arith), ne_eqb (number_of n) 12 (λ e. omega arith), two)

  pub line_found : first_broken (line_checks radio p line) ≡ found_line radio p line (read_line radio p line)
  unfolding line_checks read_line framed ended first_broken line_reason framing_reason
  line_found =
      rw (upto_found radio p line (p + radio.spans line) (read_framed radio (framed p line)), below (length line) 2, all_but_two line 2)
      (go (utf8 line) (leb 2 (length line)) refl (inside_character line 2) refl (ends_in (drop 2 line) crlf))
    where
      go : (u two : Bool) → leb 2 (length line) ≡ two → (inside : Bool) → inside_character line 2 ≡ inside → (end : Bool)
          → cond u (cond two (cond (not inside) (cond end (first_broken (text_checks radio.rows (p + 2) t)) (broken LineEnd (no 12) (p + length line))) (broken PlaceTwo (no 12) (p + 2))) (broken LineOfTwo (no 12) (p + length line))) (broken Utf8 (no 11) (p + valid_up_to line))
          ≡ found_event radio p line (read_framed radio (cond u (cond (not two || inside) (refused (no 12)) (cond end (good (body (p + 2) (inner line))) (refused (no 12)))) (refused (no 11))))
      go false two h inside i end = refl
      go true false h inside i end = rw h
      go true true h true i end = rw (h, i)
      go true true h false i false = rw (h, i)
      go true true h false i true =
          text-found radio.rows chooses (p + 2) t ∙ as_line h (read_text radio.rows (p + 2) t) (text-from radio.rows chooses (p + 2) t)

  pub line_from : From 11 (read_line radio p line)
  unfolding read_line framed ended
  line_from = go (utf8 line) (ltb (length line) 2 || inside_character line 2) (ends_in (drop 2 line) crlf)
    where
      higher : (q : ℕ) (o : OrRefused Event) → From 13 o → From 11 (up_to q o)
      higher q (good e) f = tt
      higher q (refused n) f = omega arith

      go : (u short end : Bool)
          → From 11 (up_to (p + radio.spans line) (read_framed radio (cond u (cond short (refused (no 12)) (cond end (good (body (p + 2) (take (length (drop 2 line) - 2) (drop 2 line)))) (refused (no 12)))) (refused (no 11)))))
      go false short end = omega arith
      go true true end = omega arith
      go true false false = omega arith
      go true false true = higher (p + radio.spans line) (read_text radio.rows (p + 2) (radio.kept (take (length (drop 2 line) - 2) (drop 2 line)))) (text-from radio.rows chooses (p + 2) (radio.kept (take (length (drop 2 line) - 2) (drop 2 line))))
