-- Laws of where values came from, one slot at a time, and of a response: its text is the one field that says something.
use Prim.Native.Nat.{ℕ, suc, ◌+◌, ◌*◌, ◌-◌, ◌≤◌, ◌<◌}
use mathlib.Core.Path.{◌≡◌, refl, sym, ◌∙◌}
use mathlib.Core.List.{List, [], ◌∷◌, ◌++◌}
use mathlib.Core.Bool.{Bool, true, false, cond}
use native.Mathlib.Omega.{arith}
use lib.Dec.{ltb}
use lib.ListN.{length, take, drop, get_or, length-drop}
use lib.Seq.{drop-cons, drop-drop, length-take-le}
use Rattle.text.specs.Bytes.{bytes, same, part}
use Rattle.text.specs.Find.{crlf, first_of, last_of}
use Rattle.text.specs.Utf8.{utf8}
use Rattle.std.specs.Prelude.{Option, Some, None}
use Rattle.text.proofs.Bools.{either}
use Rattle.at.specs.Refusal.{OrRefused, good, refused, no}
use Rattle.at.specs.Event.{Kind, Value, place}
use Rattle.at.specs.Line.{ends_in}
use Rattle.at.specs.Inside.{IfGood, ResponseInside}
use Rattle.at.specs.Response.{Response, ok, other, error, by_last, read_body, read_rest, read_response}
use Rattle.at.proofs.InsideLaws.{response-inside}
use Rattle.checks.specs.Slot.{span_of, slot, fixed, end_slot, shape_slots}
use Rattle.checks.specs.Part.{cut, placed, response_shape}
use Rattle.checks.specs.Came.{as_field, how_of, high_first, said_by, Gives, Came, response_values}
use Rattle.checks.specs.declared.part.PartName.{PartName}
use Rattle.checks.specs.declared.part.PartName.TheVariants.{Text, Field}
use Rattle.checks.specs.declared.slot.Slot.{Slot}
use Rattle.checks.specs.declared.slot.Span.TheVariants.{Exactly, AllBut}
use Rattle.checks.proofs.SlotLaws.{span_le}

-- these values came from the fields of s by some slots, from the place p on
abbrev pub Comes : List Kind → List ℕ → List Slot → ℕ → List Value → Type 0
Comes ks s slots p vs = Came ks s (placed p (cut slots (drop p s))) vs

-- slots that give no value, wherever they stand
abbrev pub Silent : List Kind → List ℕ → List Slot → Type 0
Silent ks s slots = (p : ℕ) → Comes ks s slots p []

module _ (ks : List Kind) (s : List ℕ) where
  pub no_slot : Silent ks s []
  unfolding Came placed cut
  no_slot p = tt

  pub end-slot : Silent ks s (end_slot ∷ [])
  unfolding Came placed cut
  end-slot p = tt

  -- one slot: what it passes over, what it takes, and the rest
  pub slot-came : (k : Slot) (rest : List Slot) (p over len : ℕ) (vs : List Value) → span_of k.pass (drop p s) ≡ over
      → span_of k.len (drop (p + over) s) ≡ len
      → Gives (said_by (how_of ks k.name) (p + over) (part s (p + over) len)) vs (Comes ks s rest (p + over + len)) → Comes ks s (k ∷ rest) p vs
  unfolding Came placed cut
  slot-came k rest p over len vs eo el g =
      let lo = length-take-le over (drop p s) (rw eo at (span_le k.pass (drop p s))) in
      let ll = length-take-le len (drop (p + over) s) (rw el at (span_le k.len (drop (p + over) s))) in
      rw (eo, lo, drop-drop over p s, el, ll, drop-drop len (p + over) s) g

  -- a slot of so many bytes
  pub fixed-came : (n : PartName) (k : ℕ) (rest : List Slot) (p : ℕ) (vs : List Value) → p + k ≤ length s
      → Gives (said_by (how_of ks n) p (part s p k)) vs (Comes ks s rest (p + k)) → Comes ks s (fixed n k ∷ rest) p vs
  unfolding span_of
  fixed-came n k rest p vs h g =
      let z : p + 0 ≡ p = omega arith in
      let l : length (take k (drop (p + 0) s)) ≡ k = length-take-le k (drop (p + 0) s) (omega (arith, length-drop (p + 0) s)) in
      slot-came (fixed n k) rest p 0 k vs refl l (rw z g)

  -- a slot that takes all but the last bytes
  pub rest-came : (n : PartName) (m : ℕ) (rest : List Slot) (p : ℕ) (vs : List Value)
      → Gives (said_by (how_of ks n) p (part s p (length s - p - m))) vs (Comes ks s rest (p + (length s - p - m)))
      → Comes ks s (slot (Exactly 0) n (AllBut m) ∷ rest) p vs
  unfolding span_of
  rest-came n m rest p vs g =
      let z : p + 0 ≡ p = omega arith in
      let l : length (drop (p + 0) s) - m ≡ length s - p - m = omega (arith, length-drop (p + 0) s) in
      slot-came (slot (Exactly 0) n (AllBut m)) rest p 0 (length s - p - m) vs refl l (rw z g)

-- the bytes of a field that lies in s
pub part_length : (s : List ℕ) (p n : ℕ) → p + n ≤ length s → length (part s p n) ≡ n
unfolding part
part_length s p n h = length-take-le n (drop p s) (omega (arith, length-drop p s))

-- numbers of one byte and of two
pub one_byte_lem : (s : List ℕ) (p : ℕ) → p < length s → high_first 0 (part s p 1) ≡ get_or s p 0
unfolding high_first part
one_byte_lem s p h = rw (drop-cons s p 0 h) (omega arith)

pub two_bytes_lem : (s : List ℕ) (p : ℕ) → suc p < length s → high_first 0 (part s p 2) ≡ get_or s p 0 * 256 + get_or s (p + 1) 0
unfolding high_first part
two_bytes_lem s p h = let m : p + 1 ≡ suc p = omega arith in rw (m, drop-cons s p 0 (omega arith), drop-cons s (suc p) 0 h) (omega arith)

-- the kind of the field suc j
pub how_field : (all : List Kind) (j : ℕ) (k : Kind) (ks : List Kind) → drop j all ≡ k ∷ ks → how_of all (Field (suc j)) ≡ as_field (suc j) k
how_field all j k ks e = let m : suc j - 1 ≡ j = omega arith in rw (m, e)

pub next-kinds : (all : List Kind) (j : ℕ) (k : Kind) (ks : List Kind) → drop j all ≡ k ∷ ks → drop (suc j) all ≡ ks
next-kinds all j k ks e = let m : j + 1 ≡ suc j = omega arith in rw m at (sym (drop-drop 1 j all)) ∙ rw e

-- A response at the place p, whose text is at p or after it

abbrev FromPlace : ℕ → Response → Type 0
FromPlace p (ok start n) = p ≤ start
FromPlace p (other start n) = p ≤ start
FromPlace p error = Unit {0}

last_from : (p q : ℕ) (t : List ℕ) → p ≤ q → (f : Option ℕ) → FromPlace p (by_last q t f)
last_from p q t h (Some i) = either (FromPlace p) (same (drop (i + 2) t) (bytes "OK")) h h
last_from p q t h None = h

body-from : (p q : ℕ) (t : List ℕ) → p ≤ q → FromPlace p (read_body q t)
unfolding read_body
body-from p q t h =
    let more = either (FromPlace p) (same t (bytes "ERROR")) tt (last_from p q t h (last_of crlf t)) in
    either (FromPlace p) (same t (bytes "OK")) h more

response-from : (p : ℕ) (t : List ℕ) → IfGood (FromPlace p) (read_response p t)
unfolding read_response read_rest
response-from p t = go (utf8 t) (ltb i (length t)) (ends_in u crlf)
  where
    i : ℕ
    i = first_of crlf t

    u : List ℕ
    u = drop (i + 2) t

    go : (a b c : Bool)
        → IfGood (FromPlace p)
        (cond a (cond b (cond c (good (read_body (p + i + 2) (take (length u - 2) u))) (refused (no 12))) (refused (no 12))) (refused (no 11)))
    go true true true = body-from p (p + i + 2) (take (length u - 2) u) (omega arith)
    go true true false = tt
    go true false c = tt
    go false b c = tt

module _ (s : List ℕ) (p : ℕ) (tail : List Slot) (none : Silent [] s tail) where
  text-came : (start n : ℕ) → p ≤ start → start + n ≤ length s
      → Comes [] s (slot (Exactly (start - p)) Text (Exactly n) ∷ tail) p (place start n ∷ [])
  unfolding span_of
  text-came start n h l =
      let m : p + (start - p) ≡ start = omega arith in
      let a = length-take-le (start - p) (drop p s) (omega (arith, length-drop p s)) in
      let b = length-take-le n (drop (p + (start - p)) s) (omega (arith, length-drop (p + (start - p)) s)) in
      slot-came [] s (slot (Exactly (start - p)) Text (Exactly n)) tail p (start - p) n (place start n ∷ []) a b
      (rw (m, part_length s start n l) (refl, none (start + n)))

  -- its text, before slots that give nothing
  pub response-came : (t : List ℕ) → p + length t ≤ length s
      → IfGood (λ r. Comes [] s (shape_slots (response_shape p r) ++ tail) p (response_values r)) (read_response p t)
  response-came t l = go (read_response p t) (response-from p t) (response-inside (length s) p t l)
    where
      go : (a : OrRefused Response) → IfGood (FromPlace p) a → IfGood (ResponseInside (length s)) a
          → IfGood (λ r. Comes [] s (shape_slots (response_shape p r) ++ tail) p (response_values r)) a
      go (good (ok start n)) f i = text-came start n f i
      go (good (other start n)) f i = text-came start n f i
      go (good error) f i = none p
      go (refused n) f i = tt
