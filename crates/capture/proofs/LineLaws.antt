-- Laws of a line: blanks at its end, its note, its time, and its frame. Assumes nothing.
use Rattle.std.proofs.Common.{◌≡◌, ℕ, ◌+◌, ◌-◌, ◌<◌, ◌≤◌, Bool, true, false, cond, ◌&&◌, eqb, leb, List, [], ◌∷◌, ◌++◌, length, get_or, take, sym, refl, ap, ◌∙◌, add-one, arith, take-suc, take_all, le-leb, leb-true, eqb-true}
use borrow.Author.Tests.{lt-leb}
use Rattle.text.specs.Bytes.{bytes, part}
use Rattle.lines.specs.Hex.{Spelt, spells, no_hex, bytes_in, answer, after}
use Rattle.std.specs.Prelude.{Option, Some, None, Ok, Err, ok_or}
use Rattle.capture.specs.declared.line.Fault.{Fault}
use Rattle.capture.specs.declared.line.Stamp.{Stamp}
use Rattle.lines.specs.declared.hex.HexError.{HexError}
use Rattle.lines.specs.declared.hex.HexError.TheVariants.{NoHex, NoRoom}
use Rattle.capture.specs.Steps.{fault_of, stamp_of}
use Rattle.lines.proofs.DecodedLaws.{bytes_of, decoded_bytes, decoded_fits, decoded_no-hex, decoded_no-room}
use Rattle.lines.specs.Number.{Amount, amount, no_amount, number_in}
use Rattle.lines.specs.Cut.{Cut, cut, whole, cut_at}
use Rattle.capture.specs.declared.line.Fault.TheVariants.{NoTime, FrameTooLong}
use Rattle.capture.specs.Line.{is_blank, and_then, trimmed, content, Time, time, no_time, time_of, around_point, stamp_in, says, nothing, wrong, record_of, around_space, said_by, said_in}

-- a blank at the end goes, and any other byte stays with all that is before it
pub blank_last : (x : List ℕ) (b : ℕ) → is_blank b ≡ true → trimmed (x ++ (b ∷ [])) ≡ trimmed x
unfolding trimmed
blank_last [] b h = rw h
blank_last (y ∷ x) b h = ap (and_then y) (blank_last x b h)

pub other_last : (x : List ℕ) (b : ℕ) → is_blank b ≡ false → trimmed (x ++ (b ∷ [])) ≡ x ++ (b ∷ [])
unfolding trimmed
other_last [] b h = rw h
other_last (y ∷ x) b h = ap (and_then y) (other_last x b h) ∙ go x
  where
    go : (x : List ℕ) → and_then y (x ++ (b ∷ [])) ≡ y ∷ (x ++ (b ∷ []))
    go [] = refl
    go (z ∷ x) = refl

module _ (s : List ℕ) (h : 1 ≤ length s) where
  split : s ≡ take (length s - 1) s ++ (get_or s (length s - 1) 0 ∷ [])
  split =
      let z : length s - 1 + 1 ≡ length s = omega arith in
      sym (take_all (length s) s (omega arith)) ∙ ap (λ (n : ℕ). take n s) (sym z ∙ add-one (length s - 1)) ∙ take-suc s (length s - 1) 0 (omega arith)

  pub blank_dropped : is_blank (get_or s (length s - 1) 0) ≡ true → trimmed s ≡ trimmed (take (length s - 1) s)
  blank_dropped b = ap trimmed split ∙ blank_last (take (length s - 1) s) (get_or s (length s - 1) 0) b

  pub rest-kept : is_blank (get_or s (length s - 1) 0) ≡ false → trimmed s ≡ s
  rest-kept b = ap trimmed split ∙ other_last (take (length s - 1) s) (get_or s (length s - 1) 0) b ∙ sym split

pub trimmed-none : (s : List ℕ) → length s < 1 → trimmed s ≡ s
unfolding trimmed
trimmed-none [] h = refl
trimmed-none (b ∷ s) h = absurd (omega arith)

-- a time that is there or is asked for in vain
pub stamp-none : (o : Option Stamp) (e : Fault) → ok_or o NoTime ≡ Err e → (stamp_of o ≡ no_time) × (e ≡ NoTime)
stamp-none (Some t) e q = let z : ◌≡◌ {A = ℕ} 0 1 = cc in absurd (omega arith)
stamp-none None e q = (refl, cc)

pub stamp-some : (o : Option Stamp) (t : Stamp) → ok_or o NoTime ≡ Ok t → stamp_of o ≡ time t.seconds t.microseconds
stamp-some (Some u) t q = let z : u ≡ t = cc in ap (λ (x : Stamp). stamp_of (Some x)) z
stamp-some None t q = let z : ◌≡◌ {A = ℕ} 0 1 = cc in absurd (omega arith)

-- two numbers that are a time
module _ (a b : ℕ) where
  pub time-good : a ≤ 4294967295 → b ≤ 999999 → time_of (amount a) (amount b) ≡ time a b
  time-good h k = rw (le-leb a 4294967295 h, le-leb b 999999 k)

  pub seconds_large : 4294967295 < a → time_of (amount a) (amount b) ≡ no_time
  seconds_large h = rw (lt-leb a 4294967295 h)

  pub microseconds_large : a ≤ 4294967295 → 999999 < b → time_of (amount a) (amount b) ≡ no_time
  microseconds_large h k = rw (le-leb a 4294967295 h, lt-leb b 999999 k)

-- a frame that was decoded into a buffer of 4,099 bytes
module _ (a b : ℕ) (buf exit : List ℕ) (l : length buf ≡ 4099) (r : Spelt) where
  pub framed-bytes : (n : ℕ) → Ok n ≡ answer (length buf) r → exit ≡ after buf r → says a b (part exit 0 n) ≡ record_of (time a b) r
  framed-bytes n e x =
      let p = decoded_bytes buf exit r n e x in
      let f = part exit 0 n in
      let k : length f ≤ 4099 = rw (l, p) at (decoded_fits (length buf) n r e) in
      rw (p, le-leb (length f) 4099 k)

  -- or was not
  pub framed-none : (x : HexError) → Err x ≡ answer (length buf) r → wrong (fault_of x) ≡ record_of (time a b) r
  framed-none NoHex e = rw (decoded_no-hex (length buf) r e)
  framed-none NoRoom e = go r (rw l at (decoded_no-room (length buf) r e)) e
    where
      go : (r : Spelt) → 4099 < length (bytes_of r) → Err NoRoom ≡ answer (length buf) r → wrong FrameTooLong ≡ record_of (time a b) r
      go (spells y) h e = rw (lt-leb (length y) 4099 h)
      go no_hex h e = let z : ◌≡◌ {A = ℕ} 0 1 = cc in absurd (omega arith)

-- a line by what stands before its note
module _ (line s : List ℕ) (e : s ≡ content line) where
  pub empty_line : true ≡ eqb (length s) 0 → nothing ≡ said_in line
  unfolding said_in
  empty_line h = rw (← e) (go s h)
    where
      go : (s : List ℕ) → true ≡ eqb (length s) 0 → nothing ≡ said_by s
      go [] h = refl
      go (b ∷ s) h = let z = eqb-true (length (b ∷ s)) 0 (sym h) in absurd (omega (arith, z))

  pub full_line : false ≡ eqb (length s) 0 → said_in line ≡ around_space s (cut_at (bytes " ") s)
  unfolding said_in
  full_line h = rw (← e) (go s h)
    where
      go : (s : List ℕ) → false ≡ eqb (length s) 0 → said_by s ≡ around_space s (cut_at (bytes " ") s)
      go [] h = let z : ◌≡◌ {A = ℕ} 0 1 = cc in absurd (omega arith)
      go (b ∷ s) h = refl

-- a record that a line says has the microseconds of one second and a frame of at most 4,099 bytes
module _ (a b : ℕ) where
  of_numbers : (x y : Amount) → time a b ≡ time_of x y → b ≤ 999999
  of_numbers (amount n) (amount m) e = go (leb n 4294967295) (leb m 999999) refl e
    where
      go : (j k : Bool) → leb m 999999 ≡ k → time a b ≡ cond (j && k) (time n m) no_time → b ≤ 999999
      go true true k e = let q : b ≡ m = cc in rw q (leb-true m 999999 k)
      go true false k e = let z : ◌≡◌ {A = ℕ} 0 1 = cc in absurd (omega arith)
      go false i k e = let z : ◌≡◌ {A = ℕ} 0 1 = cc in absurd (omega arith)
  of_numbers (amount n) no_amount e = let z : ◌≡◌ {A = ℕ} 0 1 = cc in absurd (omega arith)
  of_numbers no_amount y e = let z : ◌≡◌ {A = ℕ} 0 1 = cc in absurd (omega arith)

  of_time : (s : List ℕ) → time a b ≡ stamp_in s → b ≤ 999999
  unfolding stamp_in
  of_time s e = go (cut_at (bytes ".") s) e
    where
      go : (c : Cut) → time a b ≡ around_point c → b ≤ 999999
      go (cut x y) e = six (eqb (length y) 6) e
        where
          six : (k : Bool) → time a b ≡ cond k (time_of (number_in x) (number_in y)) no_time → b ≤ 999999
          six true e = of_numbers (number_in x) (number_in y) e
          six false e = let z : ◌≡◌ {A = ℕ} 0 1 = cc in absurd (omega arith)
      go whole e = let z : ◌≡◌ {A = ℕ} 0 1 = cc in absurd (omega arith)

  of_record : (f : List ℕ) (t : Time) (r : Spelt) → says a b f ≡ record_of t r → (time a b ≡ t) × (length f ≤ 4099)
  of_record f no_time r e = let z : ◌≡◌ {A = ℕ} 0 1 = cc in absurd (omega arith)
  of_record f (time n m) no_hex e = let z : ◌≡◌ {A = ℕ} 0 1 = cc in absurd (omega arith)
  of_record f (time n m) (spells g) e = go (leb (length g) 4099) refl e
    where
      go : (k : Bool) → leb (length g) 4099 ≡ k → says a b f ≡ cond k (says n m g) (wrong FrameTooLong) → (time a b ≡ time n m) × (length f ≤ 4099)
      go true k e =
          let q : f ≡ g = cc in
          let t : time a b ≡ time n m = cc in
          (t, rw q (leb-true (length g) 4099 k))
      go false k e = let z : ◌≡◌ {A = ℕ} 0 1 = cc in absurd (omega arith)

  pub said_fits : (f line : List ℕ) → says a b f ≡ said_in line → (b ≤ 999999) × (length f ≤ 4099)
  unfolding said_in
  said_fits f line e = go (content line) e
    where
      around : (s : List ℕ) (c : Cut) → says a b f ≡ around_space s c → (b ≤ 999999) × (length f ≤ 4099)
      around s (cut stamp hex) e = let r = of_record f (stamp_in stamp) (bytes_in hex) e in (of_time stamp r.0, r.1)
      around s whole e = let r = of_record f (stamp_in s) no_hex e in (of_time s r.0, r.1)

      go : (s : List ℕ) → says a b f ≡ said_by s → (b ≤ 999999) × (length f ≤ 4099)
      go [] e = let z : ◌≡◌ {A = ℕ} 0 1 = cc in absurd (omega arith)
      go (x ∷ s) e = around (x ∷ s) (cut_at (bytes " ") (x ∷ s)) e
