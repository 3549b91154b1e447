-- The line that `capture read` prints for a record, `capture write` takes for the same record. Assumes nothing.
use Rattle.std.proofs.Common.{◌≡◌, ℕ, zero, suc, ◌+◌, ◌-◌, ◌*◌, ◌/◌, ◌%◌, ◌<◌, ◌≤◌, min, Bool, true, false, not, ◌&&◌, ◌||◌, eqb, List, [], ◌∷◌, ◌++◌, length, sym, refl, ap, ◌∙◌, append_assoc, arith, length-append, take_at, lt-ltb, eq-eqb, ne_eqb, eqb-true, le-leb}
use contract.Lifetimes.{Lfts}
use denote.Triple.Clauses.{AtExit}
use borrow.Fn.Kinds.{Dens, ended_of}
use lib.Seq.{drop-append-add}
use borrow.Author.Tests.{eqb-false}
use Rattle.text.specs.Bytes.{bytes, same, every, without, starts_with}
use Rattle.text.specs.Decimal.{decimal}
use Rattle.text.specs.Find.{first_of}
use Rattle.text.specs.Number.{some, digits_from}
use Rattle.text.specs.Number as digits
use Rattle.text.proofs.Bools.{and_false, and_left, and_right}
use Rattle.text.proofs.Every.{every_nil, every_cons, every_append, without-head, every_tail}
use Rattle.text.proofs.ReadBack.{decimal-value, decimal-length, decimal-without}
use Rattle.edm.specs.Frame.{read_frame}
use Rattle.pcap.specs.File.{entry, Fits}
use Rattle.render.specs.Words.{digit, pairs_of, hex_of}
use Rattle.render.specs.Frame.{frame_line}
use Rattle.render.specs.Capture.{six_digits, time_line, meaning_line}
use Rattle.lines.specs.Hex.{digit_of, spells, pairs, bytes_in}
use Rattle.lines.specs.Number.{amount, number_in, capped}
use Rattle.lines.specs.Cut.{cut, cut_at}
use Rattle.lines.proofs.NumberLaws.{capped_start}
use Rattle.capture.specs.Line.{is_blank, trimmed, content, time, stamp_in, says, said_in}
use Rattle.capture.specs.Steps.{said_of}
use Rattle.std.specs.Prelude.{Option, Result}
use Rattle.capture.specs.declared.line.Fault.{Fault}
use Rattle.capture.specs.declared.line.Said.{Said}
use Rattle.capture.proofs.line.record_in as record_in_lem
use Rattle.capture.proofs.LineLaws.{blank_last, other_last, full_line, time-good}

-- a text is cut at the first place of a byte that does not stand before it
first-after : (b : ℕ) (x y : List ℕ) → without b x ≡ true → first_of (b ∷ []) (x ++ (b ∷ y)) ≡ length x
unfolding first_of starts_with
first-after b [] y h = rw (eq-eqb b b refl)
first-after b (c ∷ x) y h = rw (ne_eqb c b (without-head b c x h)) (ap suc (first-after b x y (every_tail (λ k. not (eqb k b)) c x h)))

cut-after : (b : ℕ) (x y : List ℕ) → without b x ≡ true → cut_at (b ∷ []) (x ++ (b ∷ y)) ≡ cut x y
unfolding cut_at
cut-after b x y h =
    let l = length-append x (b ∷ y) in
    rw (first-after b x y h, lt-ltb (length x) (length (x ++ (b ∷ y))) (omega arith), take_at x (b ∷ y) (length x) refl, drop-append-add x (b ∷ y) 1)

-- the time
digit_on : (v d : ℕ) (s : List ℕ) → d < 10 → digits_from v ((48 + d) ∷ s) ≡ digits_from (v * 10 + d) s
unfolding digits_from
digit_on v d s h =
    let z : 48 + d - 48 ≡ d = omega arith in
    rw (le-leb 48 (48 + d) (omega arith), le-leb (48 + d) 57 (omega arith), z)

below : (n : ℕ) → n % 10 < 10
below n = omega arith

next-digit : (n : ℕ) → n / 10 * 10 + n % 10 ≡ n
next-digit n = omega arith

more-digits : (u n : ℕ) (s : List ℕ) → u ≡ n / 10 → digits_from u ((48 + n % 10) ∷ s) ≡ digits_from n s
more-digits u n s e = rw e (digit_on (n / 10) (n % 10) s (below n) ∙ ap (λ (v : ℕ). digits_from v s) (next-digit n))

quotients : (b : ℕ) → (b / 100000 ≡ b / 10000 / 10) × (b / 10000 ≡ b / 1000 / 10) × (b / 1000 ≡ b / 100 / 10) × (b / 100 ≡ b / 10 / 10)
quotients b = (omega arith, omega arith, omega arith, omega arith)

none_before : (b : ℕ) → b ≤ 999999 → 0 ≡ b / 100000 / 10
none_before b h = omega arith

six_value : (b : ℕ) → b ≤ 999999 → digits_from 0 (six_digits b) ≡ some b
unfolding digits_from
six_value b h =
    let q = quotients b in
    let r₁ : List ℕ = (48 + b % 10) ∷ [] in
    let r₂ : List ℕ = (48 + b / 10 % 10) ∷ r₁ in
    let r₃ : List ℕ = (48 + b / 100 % 10) ∷ r₂ in
    let r₄ : List ℕ = (48 + b / 1000 % 10) ∷ r₃ in
    let r₅ : List ℕ = (48 + b / 10000 % 10) ∷ r₄ in
    more-digits 0 (b / 100000) r₅ (none_before b h)
    ∙ more-digits (b / 100000) (b / 10000) r₄ q.0
    ∙ more-digits (b / 10000) (b / 1000) r₃ q.1
    ∙ more-digits (b / 1000) (b / 100) r₂ q.2
    ∙ more-digits (b / 100) (b / 10) r₁ q.3
    ∙ more-digits (b / 10) b [] refl

number-said : (s : List ℕ) (n : ℕ) → 0 < length s → digits_from 0 s ≡ some n → n < 4294967296 → number_in s ≡ amount n
number-said s n l e h =
    let m : min n 4294967296 ≡ n = omega arith in
    capped_start s (sym (ne_eqb (length s) 0 (λ z. omega (arith, z, l)))) ∙ ap capped e ∙ ap amount m

stamp-said : (a b : ℕ) → a < 4294967296 → b ≤ 999999 → stamp_in (time_line a b) ≡ time a b
unfolding stamp_in
stamp-said a b h k =
    let c = append_assoc (decimal a) (bytes ".") (six_digits b) in
    rw (
      c,
      cut-after 46 (decimal a) (six_digits b) (decimal-without 46 refl a),
      number-said (decimal a) a (decimal-length a) (decimal-value a) h,
      number-said (six_digits b) b (omega arith) (six_value b k) (omega arith),
    )
    (time-good a b (omega arith) k)

-- the frame: a digit is read as what it was printed for, and is neither blank nor the sign of a note. One test over all 16 digits, lifted to each
abbrev plain : ℕ → Bool
plain n = eqb (digit_of (digit n)) n && (not (eqb (digit n) 35) && not (is_blank (digit n)))

unfoldable all_below : ℕ → (ℕ → Bool) → Bool
all_below zero test = true
all_below (suc n) test = test n && all_below n test

each_below : (n k : ℕ) (test : ℕ → Bool) → all_below n test ≡ true → k < n → test k ≡ true
unfolding all_below
each_below zero k test e h = absurd (omega arith)
each_below (suc n) k test e h = go (eqb k n) refl (each_below n k test (and_right (test n) (all_below n test) e))
  where
    go : (t : Bool) → eqb k n ≡ t → (k < n → test k ≡ true) → test k ≡ true
    go true q ih = rw (eqb-true k n q) (and_left (test n) (all_below n test) e)
    go false q ih = let m = eqb-false k n q in ih (omega arith)

all_plain : all_below 16 plain ≡ true
unfolding all_below
all_plain = refl

not-true : (t : Bool) → not t ≡ true → t ≡ false
not-true true e = sym e
not-true false e = refl

module _ (n : ℕ) (h : n < 16) where
  plain-digit : plain n ≡ true
  plain-digit = each_below 16 n plain all_plain h

  digit_value : digit_of (digit n) ≡ n
  digit_value = eqb-true (digit_of (digit n)) n (and_left (eqb (digit_of (digit n)) n) _ plain-digit)

  digit-no_note : not (eqb (digit n) 35) ≡ true
  digit-no_note = and_left (not (eqb (digit n) 35)) _ (and_right (eqb (digit_of (digit n)) n) _ plain-digit)

  digit-no_blank : is_blank (digit n) ≡ false
  digit-no_blank = not-true (is_blank (digit n)) (and_right (not (eqb (digit n) 35)) _ (and_right (eqb (digit_of (digit n)) n) _ plain-digit))

abbrev Bytes : List ℕ → Type 0
Bytes [] = Unit {0}
Bytes (b ∷ s) = (b < 256) × Bytes s

halves : (b : ℕ) → b < 256 → (b / 16 < 16) × (b % 16 < 16) × (b / 16 * 16 + b % 16 ≡ b)
halves b h = (omega arith, omega arith, omega arith)

no_space : (d : ℕ) → is_blank d ≡ false → eqb d 32 ≡ false
no_space d e = go (eqb d 32) e
  where
    go : (t : Bool) → (t || (eqb d 9 || eqb d 13)) ≡ false → t ≡ false
    go true e = e
    go false e = refl

pairs-said : (f : List ℕ) → Bytes f → pairs (pairs_of f) ≡ spells f
unfolding pairs pairs_of
pairs-said [] h = refl
pairs-said (b ∷ f) h =
    let p = halves b h.0 in
    let high = digit_value (b / 16) p.0 in
    let low = digit_value (b % 16) p.1 in
    rw (
      no_space (digit (b / 16)) (digit-no_blank (b / 16) p.0),
      high,
      low,
      lt-ltb (b / 16) 16 p.0,
      lt-ltb (b % 16) 16 p.1,
      p.2,
      pairs-said f h.1,
    )

hex-said : (f : List ℕ) → Bytes f → bytes_in (hex_of f) ≡ spells f
unfolding bytes_in same
hex-said [] h = refl
hex-said (b ∷ f) h = rw (no_dash, pairs-said (b ∷ f) h)
  where
    no_dash : same (hex_of (b ∷ f)) (bytes "-") ≡ false
    no_dash = unfold same pairs_of in and_false (eqb (digit (b / 16)) 45)

pairs-no_note : (f : List ℕ) → Bytes f → without 35 (pairs_of f) ≡ true
unfolding pairs_of
pairs-no_note [] h = every_nil (λ k. not (eqb k 35))
pairs-no_note (b ∷ f) h =
    let p = halves b h.0 in
    every_cons (λ k. not (eqb k 35)) (digit (b / 16)) _ (digit-no_note (b / 16) p.0)
    (every_cons (λ k. not (eqb k 35)) (digit (b % 16)) _ (digit-no_note (b % 16) p.1) (pairs-no_note f h.1))

hex-no_note : (f : List ℕ) → Bytes f → without 35 (hex_of f) ≡ true
unfolding every
hex-no_note [] h = refl
hex-no_note (b ∷ f) h = pairs-no_note (b ∷ f) h

-- no blank is at the end of a frame in hex
pairs-whole : (q : List ℕ) (b : ℕ) (f : List ℕ) → Bytes (b ∷ f) → trimmed (q ++ pairs_of (b ∷ f)) ≡ q ++ pairs_of (b ∷ f)
unfolding pairs_of
pairs-whole q b [] h =
    let d = digit (b / 16) in
    let e = digit (b % 16) in
    let a : q ++ (d ∷ e ∷ []) ≡ (q ++ (d ∷ [])) ++ (e ∷ []) = sym (append_assoc q (d ∷ []) (e ∷ [])) in
    rw a (other_last (q ++ (d ∷ [])) e (digit-no_blank (b % 16) (halves b h.0).1))
pairs-whole q b (c ∷ f) h =
    let d = digit (b / 16) in
    let e = digit (b % 16) in
    let a : q ++ (d ∷ e ∷ pairs_of (c ∷ f)) ≡ (q ++ (d ∷ e ∷ [])) ++ pairs_of (c ∷ f) = sym (append_assoc q (d ∷ e ∷ []) (pairs_of (c ∷ f))) in
    rw a (pairs-whole (q ++ (d ∷ e ∷ [])) c f h.1)

hex-whole : (q f : List ℕ) → Bytes f → trimmed (q ++ hex_of f) ≡ q ++ hex_of f
hex-whole q [] h = other_last q 45 refl
hex-whole q (b ∷ f) h = pairs-whole q b f h

-- the time has no space and no sign of a note
six_plain : (b k : ℕ) → k < 48 → without k (six_digits b) ≡ true
unfolding every
six_plain b k h = rw (away (b / 100000 % 10), away (b / 10000 % 10), away (b / 1000 % 10), away (b / 100 % 10), away (b / 10 % 10), away (b % 10))
  where
    away : (d : ℕ) → eqb (48 + d) k ≡ false
    away d = ne_eqb (48 + d) k (λ z. omega arith)

time-plain : (a b k : ℕ) → k < 46 → digits.is_digit k ≡ false → without k (time_line a b) ≡ true
time-plain a b k h e =
    let q : ℕ → Bool = λ x. not (eqb x k) in
    every_append q (decimal a ++ bytes ".") (six_digits b) (every_append q (decimal a) (bytes ".") (decimal-without k e a) point) (six_plain b k (omega arith))
  where
    point : without k (bytes ".") ≡ true
    point = unfold every in rw (ne_eqb 46 k (λ z. omega arith))

-- the whole line
one_space : without 35 (bytes " ") ≡ true
unfolding every
one_space = refl

content-said : (p m : List ℕ) → without 35 p ≡ true → trimmed p ≡ p → p ≡ content (p ++ bytes " # " ++ m)
unfolding content
content-said p m h e =
    let before = every_append (λ x. not (eqb x 35)) p (bytes " ") h one_space in
    let line : p ++ bytes " # " ++ m ≡ (p ++ bytes " ") ++ (35 ∷ 32 ∷ m) = append_assoc p (bytes " # ") m ∙ sym (append_assoc p (bytes " ") (35 ∷ 32 ∷ m)) in
    rw (line, cut-after 35 (p ++ bytes " ") (32 ∷ m) before) (sym (blank_last p 32 refl ∙ e))

pub printed_is-said : (a b : ℕ) (f : List ℕ) → Fits (entry a b f) → Bytes f → said_in (meaning_line a b f) ≡ says a b f
unfolding meaning_line
printed_is-said a b f h k =
    let t = time_line a b in
    let p = t ++ bytes " " ++ hex_of f in
    let m = frame_line f (read_frame f) in
    let q : ℕ → Bool = λ x. not (eqb x 35) in
    let no_note = every_append q (t ++ bytes " ") (hex_of f) (every_append q t (bytes " ") (time-plain a b 35 (omega arith) refl) one_space) (hex-no_note f k) in
    let c = content-said p m no_note (hex-whole (t ++ bytes " ") f k) in
    let split : p ≡ t ++ (32 ∷ hex_of f) = append_assoc t (bytes " ") (hex_of f) in
    let l = length-append (t ++ bytes " ") (hex_of f) in
    let n = length-append t (bytes " ") in
    full_line (p ++ bytes " # " ++ m) p c (sym (ne_eqb (length p) 0 (λ z. omega (arith, z, l, n))))
    ∙ rw (split, cut-after 32 t (hex_of f) (time-plain a b 32 (omega arith) refl), stamp-said a b h.0 h.1, hex-said f k, le-leb (length f) 4099 h.2)

-- so whatever `record_in` answers to the line that `line` prints, without its line end, is that record: by its own contract
pub printed_reads_back : (κs : Lfts 2) (args : Dens κs record_in_lem.Kinds.ps) (x : Result (Option Said) Fault) (e : AtExit (ended_of 2 record_in_lem.Kinds.ps record_in_lem.Kinds.r) κs)
    → record_in_lem.Reads.Post κs args x e → (a b : ℕ) (f : List ℕ) → Fits (entry a b f) → Bytes f → args.1.0.now ≡ meaning_line a b f → said_of e.0.now x ≡ says a b f
printed_reads_back κs args x e p a b f h k l = p ∙ ap said_in l ∙ printed_is-said a b f h k
