-- Laws of the check and the byte that go with a refusal, from the tests that the code makes.
use Prim.Native.Nat.{ℕ, ◌+◌, ◌≤◌, ◌<◌}
use mathlib.Core.Path.{◌≡◌, refl, ◌∙◌}
use mathlib.Core.List.{List, [], ◌∷◌}
use mathlib.Core.Bool.{Bool, true, false, cond, false≢true}
use native.Mathlib.Omega.{arith}
use Rattle.std.specs.Prelude.{◌⊎◌}
use Rattle.std.proofs.Common.{inl, inr}
use lib.Dec.{eqb}
use lib.ListN.{length, drop}
use borrow.Author.Tests.{ne_eqb, eqb-true, le-leb, lt-leb, lt-ltb, le-ltb}
use lib.Seq.{drop-drop}
use Rattle.text.specs.Bytes.{starts_with}
use Rattle.text.specs.Find.{crlf, first_of}
use Rattle.text.specs.Utf8.{valid_up_to}
use Rattle.text.specs.Field.{Field, fields_from}
use Rattle.at.specs.Refusal.{Refusal, number_of, refusal_of}
use Rattle.at.specs.declared.AtPacketError.{AtPacketError}
use Rattle.at.specs.declared.AtPacketError.TheVariants as error
use Rattle.at.specs.Line.{fields_after}
use Rattle.at.specs.Event.{Row}
use Rattle.at.specs.Binary.{marker, prefix}
use Rattle.edm.specs.Packet.{Carries, unknown, Identifier, ◌carries◌, identifiers, carried}
use Rattle.edm.specs.Frame.{payload}
use Rattle.checks.specs.Check.{broken}
use Rattle.checks.specs.Line.{inner}
use Rattle.checks.specs.Binary.{field_text, after_marker}
use Rattle.checks.specs.Frame.{carried_by}
use Rattle.checks.specs.Steps.{start_no, text_reason, framing_reason, line_reason, response_reason, data_reason, body_reason, binary_reason, is_connect, is_response, size_reason, at_reason}
use Rattle.checks.specs.declared.CheckName.TheVariants as check

-- the two refusals that the code tells by their names, and that no other has their numbers
pub eleven : (e : AtPacketError) → e ≡ error.Utf8DecodeFailed → number_of (refusal_of e) ≡ 11
eleven e h = rw h

pub twelve : (e : AtPacketError) → e ≡ error.FramingDecodeFailed → number_of (refusal_of e) ≡ 12
twelve e h = rw h

pub not_eleven : (e : AtPacketError) → (e ≡ error.Utf8DecodeFailed → ⊥) → number_of (refusal_of e) ≡ 11 → ⊥
not_eleven error.Utf8DecodeFailed h q = h refl
not_eleven error.FramingDecodeFailed h q = omega (arith, q)
not_eleven error.TypeDecodeUnsupported h q = omega (arith, q)
not_eleven (error.TypeDecodeParameterMissing field) h q = omega (arith, q)
not_eleven (error.TypeDecodeParameterDataTypeInvalid field why) h q = omega (arith, q)
not_eleven error.EventUnknown h q = omega (arith, q)

pub not_twelve : (e : AtPacketError) → (e ≡ error.FramingDecodeFailed → ⊥) → number_of (refusal_of e) ≡ 12 → ⊥
not_twelve error.Utf8DecodeFailed h q = omega (arith, q)
not_twelve error.FramingDecodeFailed h q = h refl
not_twelve error.TypeDecodeUnsupported h q = omega (arith, q)
not_twelve (error.TypeDecodeParameterMissing field) h q = omega (arith, q)
not_twelve (error.TypeDecodeParameterDataTypeInvalid field why) h q = omega (arith, q)
not_twelve error.EventUnknown h q = omega (arith, q)

-- a refusal of a text that carries nothing
pub of-type : (p end : ℕ) (fs : List Field) (e : AtPacketError) → (e ≡ error.TypeDecodeUnsupported) ⊎ ((e ≡ error.Utf8DecodeFailed) ⊎ (e ≡ error.FramingDecodeFailed))
    → broken (check.FieldType 2) (refusal_of e) (start_no 1 fs) ≡ text_reason p end fs (refusal_of e)
of-type p end fs e (inl h) = rw h
of-type p end fs e (inr (inl h)) = rw h
of-type p end fs e (inr (inr h)) = rw h

-- a line
module _ (p : ℕ) (line : List ℕ) (n : Refusal) (t : List ℕ) (a : number_of n ≡ 11 → ⊥) (b : number_of n ≡ 12 → ⊥) where
  pub no_text : length line < 2 → framing_reason p line n ≡ line_reason p line t n
  unfolding line_reason
  no_text h = rw (ne_eqb (number_of n) 11 a, ne_eqb (number_of n) 12 b, lt-leb 2 (length line) h)

  pub in_text_lem : 2 ≤ length line → text_reason (p + 2) (p + 2 + length t) (fields_after (p + 2) t) n ≡ line_reason p line t n
  unfolding line_reason
  in_text_lem h = rw (ne_eqb (number_of n) 11 a, ne_eqb (number_of n) 12 b, le-leb 2 (length line) h)

-- a response
module _ (p : ℕ) (s : List ℕ) (n : Refusal) (a : number_of n ≡ 11 → ⊥) where
  pub no_last_end : first_of crlf s < length s → broken check.LastLineEnd n (p + length s) ≡ response_reason p s n
  unfolding response_reason
  no_last_end h = rw (ne_eqb (number_of n) 11 a, lt-ltb (first_of crlf s) (length s) h)

  pub no-first-end : length s ≤ first_of crlf s → broken check.FirstLineEnd n (p + length s) ≡ response_reason p s n
  unfolding response_reason
  no-first-end h = rw (ne_eqb (number_of n) 11 a, le-ltb (first_of crlf s) (length s) h)

-- a binary event
module _ (p : ℕ) (t : List ℕ) (n : Refusal) where
  pub unmarked : length t ≤ first_of marker t → broken check.Marker n (p + length t) ≡ body_reason p t n
  unfolding body_reason
  unmarked h = rw (le-ltb (first_of marker t) (length t) h)

  module _ (m : first_of marker t < length t) where
    pub body-not-utf8 : number_of n ≡ 11 → broken check.Utf8 n (p + valid_up_to (field_text t)) ≡ body_reason p t n
    unfolding body_reason
    body-not-utf8 e = rw (lt-ltb (first_of marker t) (length t) m, e)

    pub in_data : number_of n ≡ 12 → data_reason (p + length t) (after_marker t) n ≡ body_reason p t n
    unfolding body_reason
    in_data e = rw (lt-ltb (first_of marker t) (length t) m, e)

    pub in_fields : (number_of n ≡ 11 → ⊥) → (number_of n ≡ 12 → ⊥) → text_reason p (p + length (field_text t)) (fields_from p (field_text t)) n ≡ body_reason p t n
    unfolding body_reason
    in_fields a b = rw (lt-ltb (first_of marker t) (length t) m, ne_eqb (number_of n) 11 a, ne_eqb (number_of n) 12 b)

-- what an identifier carries, by one number: no other row of the list carries it
module _ (test : Carries → Bool) (none : test unknown ≡ false) where
  abbrev Only : ℕ → List Identifier → Type 0
  Only id [] = Unit {0}
  Only id ((i carries c) ∷ rest) = (test c ≡ true → i ≡ id) × Only id rest

  carried_else : (rows : List Identifier) (i id : ℕ) → Only id rows → (i ≡ id → ⊥) → test (carried rows i) ≡ false
  unfolding carried
  carried_else [] i id o h = none
  carried_else ((j carries c) ∷ rest) i id o h = go (eqb i j) refl (test c) refl (carried_else rest i id o.1 h)
    where
      go : (k : Bool) → eqb i j ≡ k → (b : Bool) → test c ≡ b → test (carried rest i) ≡ false → test (cond k c (carried rest i)) ≡ false
      go false e b f more = more
      go true e false f more = f
      go true e true f more = absurd (h (eqb-true i j e ∙ o.0 f))

pub connect_is : is_connect (carried identifiers 0x0011) ≡ true
unfolding carried identifiers
connect_is = refl

pub response-is : is_response (carried identifiers 0x0045) ≡ true
unfolding carried identifiers
response-is = refl

pub not_connect : (i : ℕ) → (i ≡ 0x0011 → ⊥) → is_connect (carried identifiers i) ≡ false
unfolding identifiers
not_connect i h = carried_else is_connect refl identifiers i 0x0011 ((λ e. refl), (no_1, (no_1, (no_1, (no_1, (no_1, (no_1, (no_1, (no_1, tt))))))))) h
  where
    no_1 : {j : ℕ} → false ≡ true → j ≡ 0x0011
    no_1 e = absurd (false≢true e)

pub not-response : (i : ℕ) → (i ≡ 0x0045 → ⊥) → is_response (carried identifiers i) ≡ false
unfolding identifiers
not-response i h = carried_else is_response refl identifiers i 0x0045 (no_1, (no_1, (no_1, (no_1, (no_1, ((λ e. refl), (no_1, (no_1, (no_1, tt))))))))) h
  where
    no_1 : {j : ℕ} → false ≡ true → j ≡ 0x0045
    no_1 e = absurd (false≢true e)

-- a frame
module _ (s : List ℕ) (n : Refusal) where
  pub short_connect : 6 ≤ length s → is_connect (carried_by s) ≡ true → broken check.ConnectOfTwo n (5 + length (payload s)) ≡ size_reason s n
  unfolding size_reason
  short_connect h e = rw (le-leb 6 (length s) h, e)

  pub short-data : 6 ≤ length s → is_connect (carried_by s) ≡ false → broken check.DataChannel n (5 + length (payload s)) ≡ size_reason s n
  unfolding size_reason
  short-data h e = rw (le-leb 6 (length s) h, e)

  pub in_response : is_response (carried_by s) ≡ true → response_reason 5 (payload s) n ≡ at_reason s n
  unfolding at_reason
  in_response e = rw e

  pub in_event : is_response (carried_by s) ≡ false → line_reason 5 (payload s) (inner (payload s)) n ≡ at_reason s n
  unfolding at_reason
  in_event e = rw e

-- a binary event, by its row
module _ (r : Row) (rs : List Row) (s : List ℕ) (from : ℕ) (n : Refusal) where
  pub row_named : starts_with (drop from s) (prefix r) ≡ true
      → body_reason (from + length (prefix r)) (drop (from + length (prefix r)) s) n ≡ binary_reason (r ∷ rs) from (drop from s) n
  unfolding binary_reason
  row_named e = rw (e, drop-drop (length (prefix r)) from s)

  pub row-passed : starts_with (drop from s) (prefix r) ≡ false → binary_reason rs from (drop from s) n ≡ binary_reason (r ∷ rs) from (drop from s) n
  unfolding binary_reason
  row-passed e = rw e
