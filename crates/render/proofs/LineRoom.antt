-- How long the line of one event is: of a line of either radio, and of a binary event.
use Prim.Native.Nat.{ℕ, ◌+◌, ◌*◌, ◌-◌, ◌≤◌}
use mathlib.Core.Path.{◌≡◌, refl, sym, ap, ◌∙◌}
use mathlib.Core.List.{List}
use mathlib.Core.Bool.{true}
use native.Mathlib.Omega.{arith}
use lib.ListN.{length, take, drop, length-append, length-take, length-drop}
use borrow.Author.Tests.{leb-true}
use Rattle.text.specs.Bytes.{bytes}
use Rattle.text.specs.Find.{crlf, first_of}
use Rattle.at.specs.Refusal.{number_of, OrRefused, good, refused}
use Rattle.at.specs.Event.{Row, kinds_of, Value, ReadEvent, event_to, event}
use Rattle.at.specs.Line.{before, Radio, read_line}
use Rattle.at.specs.Binary.{Tried, not_binary, tried, try_rows}
use Rattle.at.specs.W26 as w26
use Rattle.at.specs.W36 as w36
use Rattle.at.proofs.EndLaws.{ends_long, framed-whole-only, first-inside, before-first}
use Rattle.render.specs.Words.{values_line}
use Rattle.render.specs.Event.{Case, cases26, cases36, case_of, event_line, answer_line}
use Rattle.render.specs.Walk.{tried_line}
use Rattle.render.proofs.WordLengths.{refused-room}
use Rattle.render.proofs.RowTests.{rows_pass, cost, cheap, cheap_26, passed_36}
use Rattle.render.proofs.EventRoom.{Short, Spans, line_short, binary-short}

-- the two radios: what they keep, and the bytes that an event takes up
pub spans_26 : Spans w26.w26
spans_26 p line q t e =
    let w = framed-whole-only p line q t e in
    let u = drop 2 line in
    (omega (arith, ends_long u w.ends, ap length w.between, length-take (length u - 2) u, length-drop 2 line), omega arith)

pub spans_36 : Spans w36.w36
unfolding before
spans_36 p line q t e =
    let w = framed-whole-only p line q t e in
    let u = drop 2 line in
    let b : length (take (first_of crlf u) u) ≡ length (before crlf t) = ap length (before-first u w.ends) ∙ ap (λ (l : List ℕ). length (before crlf l)) (sym w.between) in
    let i = first-inside u w.ends in
    (omega (arith, b, length-take (first_of crlf u) u), omega (arith, i, length-drop 2 line))

-- an event that ends at most n bytes after its place
event-room : (cases : List Case) (src : List ℕ) (p : ℕ) (r : Row) (vs : List Value) (q n : ℕ) → cheap cases r ≡ true → Short src p r vs q → q ≤ p + n
    → length (event_line cases src (event r vs)) ≤ 2 * n + 50
event-room cases src p r vs q n c s h =
    omega (arith, leb-true (cost cases r) 50 c, s.short, h, length-append (bytes (case_of cases r)) (values_line (kinds_of r) src vs))

-- a line of a radio, at any place of any source; no refusal is longer than 43
pub answer-room : (cases : List Case) (radio : Radio) → rows_pass (cheap cases) radio.rows ≡ true → Spans radio → (src : List ℕ) (p : ℕ) (line : List ℕ)
    → length (answer_line cases src (read_line radio p line)) ≤ 2 * length line + 50
answer-room cases radio c h src p line = go (read_line radio p line) refl
  where
    go : (a : OrRefused ReadEvent) → read_line radio p line ≡ a → length (answer_line cases src a) ≤ 2 * length line + 50
    go (good (event_to (event r vs) q)) e =
        let x = line_short (cheap cases) src r vs radio c h p line q e in
        event-room cases src p r vs q (length line) x.0 x.1 x.2
    go (refused n) e = omega (arith, refused-room (number_of n))

pub w26-room : (s : List ℕ) → length (answer_line cases26 s (read_line w26.w26 0 s)) ≤ 2 * length s + 150
w26-room s = omega (arith, answer-room cases26 w26.w26 cheap_26 spans_26 s 0 s)

pub w36-room : (s : List ℕ) → length (answer_line cases36 s (read_line w36.w36 0 s)) ≤ 2 * length s + 150
w36-room s = omega (arith, answer-room cases36 w36.w36 passed_36.0.texts spans_36 s 0 s)

pub binary-room : (s : List ℕ) → length (tried_line s (try_rows w36.binary_table 0 s)) ≤ 2 * length s + 150
binary-room s = go (try_rows w36.binary_table 0 s) refl
  where
    go : (t : Tried) → try_rows w36.binary_table 0 s ≡ t → length (tried_line s t) ≤ 2 * length s + 150
    go (tried (good (event_to (event r vs) q))) e =
        let x = binary-short (cheap cases36) s r vs w36.binary_table passed_36.0.binaries 0 s q e in
        omega (arith, event-room cases36 s 0 r vs q (length s) x.0 x.1 x.2)
    go (tried (refused n)) e = omega (arith, refused-room (number_of n))
    go not_binary e = omega arith
