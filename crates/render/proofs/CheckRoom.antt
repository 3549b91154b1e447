-- How long the line of a refused input is: no check has a long name, a large number or a byte far past the input, and the fields of no event are many.
use Prim.Native.Nat.{ℕ, suc, ◌+◌, ◌-◌, ◌≤◌}
use mathlib.Core.Path.{◌≡◌, refl}
use mathlib.Core.List.{List, [], ◌∷◌, ◌++◌}
use mathlib.Core.Bool.{Bool, true, false, cond}
use native.Mathlib.Omega.{arith}
use lib.ListN.{length, take, drop, length-append, length-take, length-drop}
use borrow.Author.Tests.{leb-true}
use Rattle.text.specs.Bytes.{bytes, starts_with}
use Rattle.text.specs.Decimal.{decimal}
use Rattle.text.specs.Field.{Field, field}
use Rattle.text.specs.Find.{first_of}
use Rattle.text.specs.Utf8.{valid_up_to}
use Rattle.text.proofs.Bools.{and_left, and_right}
use Rattle.at.specs.Refusal.{number_of}
use Rattle.at.specs.Event.{Kind, bits, text, ip_type, bt_type, protocol, reason, Row, name_of, kinds_of}
use Rattle.at.specs.Line.{Radio, before, rows_named, fields_after}
use Rattle.at.specs.Binary.{fields_up_to, prefix}
use Rattle.at.specs.W26 as w26
use Rattle.at.specs.W36 as w36
use Rattle.at.proofs.InsideLaws.{FieldsInside, after-inside, up_to_inside, Stays, stays_26}
use Rattle.at.proofs.RowsLaws.{Each, each_named}
use Rattle.edm.specs.Packet.{Carries, connect, disconnect, data_event, request, response, at_event, resend, start, unknown}
use Rattle.edm.specs.Frame.{payload}
use Rattle.checks.specs.Check.{Check, ◌needs◌else◌at◌, first_broken, broken}
use Rattle.checks.specs.Number.{number_checks}
use Rattle.checks.specs.Line.{form_checks, start_of, bytes_of, after, field_checks, types_fit, kinds_for, text_checks, inner, line_checks}
use Rattle.checks.specs.Response.{response_checks}
use Rattle.checks.specs.Binary.{field_text, after_marker, data_checks, body_checks, Binary, not_binary, binary, binary_checks}
use Rattle.checks.specs.Frame.{payload_checks, carried_by, frame_checks}
use Rattle.checks.specs.Part.{Part}
use Rattle.checks.proofs.Utf8Bound.{valid_le}
use Rattle.render.specs.Words.{name_in}
use Rattle.render.specs.Refusal.{refusals}
use Rattle.render.specs.Label.{check_names, check_word}
use Rattle.render.specs.Explained.{accepted_line, found_line}
use Rattle.render.proofs.WordLengths.{decimal-within, names_within, name_within}
use Rattle.render.proofs.RowTests.{rows_pass}
use Rattle.render.proofs.PartRoom.{seven, sevens}

-- a check whose byte is at most m
abbrev Short : ℕ → Check → Type 0
Short m (c needs t else n at b) = (length (check_word c) ≤ 15) × (number_of n ≤ 99) × (b ≤ m)

abbrev pub EachShort : ℕ → List Check → Type 0
EachShort m [] = Unit {0}
EachShort m (k ∷ ks) = Short m k × EachShort m ks

each_both : (m : ℕ) (first then : List Check) → EachShort m first → EachShort m then → EachShort m (first ++ then)
each_both m [] then g h = h
each_both m (k ∷ first) then g h = (g.0, each_both m first then g.1 h)

refusal_name : (n : ℕ) → length (name_in refusals n) ≤ 35
unfolding refusals names_within
refusal_name n = name_within 35 refusals refl n

-- the first that does not hold, or the fields
pub found-room : (m : ℕ) → m ≤ 999999 → (ps : List Part) → length (accepted_line ps) ≤ 500 → (checks : List Check) → EachShort m checks
    → length (found_line (first_broken checks) ps) ≤ 500
unfolding first_broken
found-room m l ps p [] h = p
found-room m l ps p ((c needs t else n at b) ∷ checks) h = go t (found-room m l ps p checks h.1)
  where
    go : (k : Bool) → length (found_line (first_broken checks) ps) ≤ 500 → length (found_line (cond k (first_broken checks) (broken c n b)) ps) ≤ 500
    go true e = e
    go false e =
        let d = decimal (number_of n) in
        let name = name_in refusals (number_of n) in
        let w = check_word c in
        let x1 = length-append (d ++ bytes " " ++ name ++ (bytes " @" ++ decimal b) ++ bytes " ") w in
        let x2 = length-append (d ++ bytes " " ++ name ++ (bytes " @" ++ decimal b)) (bytes " ") in
        let x3 = length-append (d ++ bytes " " ++ name) (bytes " @" ++ decimal b) in
        let x4 = length-append (d ++ bytes " ") name in
        let x5 = length-append d (bytes " ") in
        omega (arith, x1, x2, x3, x4, x5, h.0.0, refusal_name (number_of n), decimal-within 1 (number_of n) (omega (arith, h.0.1)), decimal-within 5 b (omega (arith, h.0.2)))

-- Names of checks

plain-room : (n : ℕ) → length (name_in check_names n) ≤ 14
unfolding check_names names_within
plain-room n = name_within 14 check_names refl n

field_room : (n i : ℕ) → i ≤ 9 → length (name_in check_names n ++ decimal i) ≤ 15
field_room n i h = omega (arith, plain-room n, length-append (name_in check_names n) (decimal i), decimal-within 0 i (omega arith))

-- one check
plain : (m n b : ℕ) (k : ℕ) → k ≤ 99 → b ≤ m → (length (name_in check_names n) ≤ 15) × (k ≤ 99) × (b ≤ m)
plain m n b k g h = (omega (arith, plain-room n), g, h)

-- Fields

module _ (m i p : ℕ) (h : i ≤ 9) (l : p ≤ m) where
  number_short : (w : ℕ) (b : List ℕ) → EachShort m (number_checks i w p b)
  number_short w b = ((field_room 19 i h, omega arith, l), ((field_room 20 i h, omega arith, l), ((field_room 21 i h, omega arith, l), tt)))

  form-short : (k : Kind) (b : List ℕ) → EachShort m (form_checks i k p b)
  form-short (bits w) b = number_short w b
  form-short text b = tt
  form-short ip_type b = ((field_room 23 i h, omega arith, l), tt)
  form-short bt_type b = ((field_room 23 i h, omega arith, l), tt)
  form-short protocol b = ((field_room 19 i h, omega arith, l), ((field_room 20 i h, omega arith, l), ((field_room 21 i h, omega arith, l), ((field_room 22 i h, omega arith, l), tt))))
  form-short reason b = ((field_room 19 i h, omega arith, l), ((field_room 20 i h, omega arith, l), ((field_room 21 i h, omega arith, l), ((field_room 22 i h, omega arith, l), tt))))

start_inside : (m : ℕ) (fs : List Field) → FieldsInside m fs → start_of fs ≤ m
start_inside m [] h = omega arith
start_inside m (field p b ∷ fs) h = omega (arith, h.0)

after_first : (m : ℕ) (fs : List Field) → FieldsInside m fs → FieldsInside m (after fs)
after_first m [] h = tt
after_first m (field p b ∷ fs) h = h.1

fields-short : (m i end : ℕ) (ks : List Kind) (fs : List Field) → i + length ks ≤ 10 → end ≤ m → FieldsInside m fs → EachShort m (field_checks i end ks fs)
unfolding field_checks
fields-short m i end [] fs h l f = tt
fields-short m i end (k ∷ ks) fs h l f = (
  (field_room 18 i (omega arith), omega arith, l),
  each_both m (form_checks i k (start_of fs) (bytes_of fs)) (field_checks (suc i) end ks (after fs)) (form-short m i (start_of fs) (omega arith) (start_inside m fs f) k (bytes_of fs))
      (fields-short m (suc i) end ks (after fs) (omega arith) l (after_first m fs f)),
)

-- Lines

abbrev AtMostSeven : Row → Type 0
AtMostSeven r = length (kinds_of r) ≤ 7

each_seven : (rows : List Row) → rows_pass seven rows ≡ true → Each AtMostSeven rows
unfolding rows_pass
each_seven [] t = tt
each_seven (r ∷ rs) t = (leb-true (length (kinds_of r)) 7 (and_left (seven r) (rows_pass seven rs) t), each_seven rs (and_right (seven r) (rows_pass seven rs) t))

kinds-seven : (name : List ℕ) (rows : List Row) (fs : List Field) → Each (λ r. AtMostSeven r × (name ≡ name_of r)) rows → length (kinds_for rows fs) ≤ 7
unfolding kinds_for
kinds-seven name [] fs h = omega arith
kinds-seven name (r ∷ []) fs h = h.0.0
kinds-seven name (r ∷ q ∷ rs) fs h = go (types_fit (kinds_of r) fs) (kinds-seven name (q ∷ rs) fs h.1)
  where
    go : (k : Bool) → length (kinds_for (q ∷ rs) fs) ≤ 7 → length (cond k (kinds_of r) (kinds_for (q ∷ rs) fs)) ≤ 7
    go true e = h.0.0
    go false e = e

text-short : (m : ℕ) (rows : List Row) → rows_pass seven rows ≡ true → (p : ℕ) (t : List ℕ) → p + length t ≤ m → EachShort m (text_checks rows p t)
unfolding text_checks
text-short m rows s p t h =
    let name = before (bytes ":") t in
    let fs = fields_after p t in
    let k = kinds-seven name (rows_named rows name) fs (each_named AtMostSeven rows name (each_seven rows s)) in
    (plain m 17 p 16 (omega arith) (omega arith), fields-short m 1 (p + length t) (kinds_for (rows_named rows name) fs) fs (omega (arith, k)) h (after-inside m p t h))

-- a line may be shorter than the two bytes before its text
pub line_short : (radio : Radio) → rows_pass seven radio.rows ≡ true → Stays radio → (p : ℕ) (line : List ℕ) → EachShort (p + 2 + length line) (line_checks radio p line)
unfolding line_checks
line_short radio s k p line =
    let m = p + 2 + length line in
    let n = length line - 2 in
    let t = inner line in
    let l : length t ≤ length line = omega (arith, length-drop 2 (take n line), length-take n line) in
    let e = text-short m radio.rows s (p + 2) (radio.kept t) (omega (arith, k.keeps t, l)) in
    let a = plain m 13 (p + valid_up_to line) 11 (omega arith) (omega (arith, valid_le line)) in
    let b = plain m 14 (p + length line) 12 (omega arith) (omega arith) in
    let c = plain m 15 (p + 2) 12 (omega arith) (omega arith) in
    let d = plain m 16 (p + length line) 12 (omega arith) (omega arith) in
    (a, (b, (c, (d, e))))

-- Responses

pub response-short : (p : ℕ) (s : List ℕ) → EachShort (p + 2 + length s) (response_checks p s)
unfolding response_checks
response-short p s =
    let m = p + 2 + length s in
    (plain m 13 _ 11 (omega arith) (omega (arith, valid_le s)), (plain m 24 _ 12 (omega arith) (omega arith), (plain m 25 _ 12 (omega arith) (omega arith), tt)))

-- Binary events

data-short : (m end : ℕ) (t : List ℕ) → end ≤ m → EachShort m (data_checks end t)
data-short m end t h = (plain m 27 end 12 (omega arith) h, (plain m 28 end 12 (omega arith) h, tt))

body-short : (m : ℕ) (r : Row) → AtMostSeven r → (p : ℕ) (t : List ℕ) → p + length t ≤ m → EachShort m (body_checks r p t)
unfolding body_checks
body-short m r s p t h =
    let u = field_text t in
    let l : length u ≤ length t = omega (arith, length-take (first_of (1 ∷ []) t) t) in
    let fs = fields_up_to (length (kinds_of r) - 1) p u in
    let f = fields-short m 1 (p + length u) (kinds_of r) fs (omega (arith, s)) (omega (arith, l)) (up_to_inside m (length (kinds_of r) - 1) p u (omega (arith, l))) in
    let d = data-short m (p + length t) (after_marker t) h in
    let e = each_both m (field_checks 1 (p + length u) (kinds_of r) fs) (data_checks (p + length t) (after_marker t)) f d in
    (plain m 26 _ 12 (omega arith) h, (plain m 13 _ 11 (omega arith) (omega (arith, valid_le u, l)), e))

-- of bytes that are a binary event
abbrev pub IfShort : ℕ → Binary → Type 0
IfShort m not_binary = Unit {0}
IfShort m (binary checks) = EachShort m checks

abbrev Slim : Row → Type 0
Slim r = AtMostSeven r × (length (name_of r) ≤ 11)

slim_binary : Each Slim w36.binary_table
unfolding w36.binary_table
slim_binary = ((omega arith, omega arith), ((omega arith, omega arith), tt))

rows_short : (m : ℕ) (rows : List Row) → Each Slim rows → (p : ℕ) (s : List ℕ) → p + 14 + length s ≤ m → IfShort m (binary_checks rows p s)
unfolding binary_checks
rows_short m [] a p s h = tt
rows_short m (r ∷ rs) a p s h = go (starts_with s (prefix r)) (rows_short m rs a.1 p s h)
  where
    go : (k : Bool) → IfShort m (binary_checks rs p s) → IfShort m (cond k (binary (body_checks r (p + length (prefix r)) (drop (length (prefix r)) s))) (binary_checks rs p s))
    go true e =
        let n = length-append (name_of r) (bytes ":") in
        body-short m r a.0.0 (p + length (prefix r)) (drop (length (prefix r)) s) (omega (arith, n, a.0.1, length-drop (length (prefix r)) s))
    go false e = e

pub binary-short : (s : List ℕ) → IfShort (14 + length s) (binary_checks w36.binary_table 0 s)
binary-short s = rows_short (14 + length s) w36.binary_table slim_binary 0 s (omega arith)

-- Frames

payload-short : (k : Carries) (t : List ℕ) → EachShort (7 + length t) (payload_checks k 5 t)
payload-short connect t =
    let m = 7 + length t in
    (plain m 7 _ 2 (omega arith) (omega arith), (plain m 8 _ 5 (omega arith) (omega arith), (plain m 9 _ 6 (omega arith) (omega arith), tt)))
payload-short disconnect t = (plain (7 + length t) 10 _ 7 (omega arith) (omega arith), tt)
payload-short data_event t = (plain (7 + length t) 11 _ 2 (omega arith) (omega arith), tt)
payload-short request t = (plain (7 + length t) 12 _ 8 (omega arith) (omega (arith, valid_le t)), tt)
payload-short response t = response-short 5 t
payload-short at_event t = line_short w26.w26 sevens.0 stays_26 5 t
payload-short resend t = tt
payload-short start t = tt
payload-short unknown t = tt

each_further : (m n : ℕ) → m ≤ n → (checks : List Check) → EachShort m checks → EachShort n checks
each_further m n h [] e = tt
each_further m n h ((c needs t else r at b) ∷ checks) e = ((e.0.0, e.0.1, omega (arith, e.0.2)), each_further m n h checks e.1)

pub frame-short : (s : List ℕ) → EachShort (8 + length s) (frame_checks s)
unfolding frame_checks
frame-short s =
    let m = 8 + length s in
    let l : length (payload s) ≤ length s = omega (arith, length-drop 5 (take (length s - 1) s), length-take (length s - 1) s) in
    let g = each_further (7 + length (payload s)) m (omega (arith, l)) (payload_checks (carried_by s) 5 (payload s)) (payload-short (carried_by s) (payload s)) in
    let a = plain m 1 (length s) 1 (omega arith) (omega arith) in
    let b = plain m 2 0 1 (omega arith) (omega arith) in
    let c = plain m 3 (length s - 1) 1 (omega arith) (omega arith) in
    let d = plain m 4 (length s) 2 (omega arith) (omega arith) in
    let e = plain m 5 1 3 (omega arith) (omega arith) in
    let f = plain m 6 3 4 (omega arith) (omega arith) in
    (a, (b, (c, (d, (e, (f, g))))))
