-- Wrong explainers, stopped by the contracts of the explaining functions: one that names a later check that also fails, one that always names the
-- first, one whose byte is one off, and one that looks for a missing field of W36 past the text that it keeps.
use Prim.Native.Nat.{ℕ, suc}
use mathlib.Core.Path.{◌≡◌, refl, ap, ◌∙◌}
use mathlib.Core.List.{List, [], ◌∷◌}
use mathlib.Core.Bool.{true}
use native.Mathlib.Omega.{arith}
use lib.ListN.{length}
use Rattle.std.specs.Prelude.{Some, None, Err}
use contract.Lifetimes.{Lfts}
use denote.Triple.Clauses.{AtExit}
use borrow.Fn.Kinds.{Dens, ended_of}
use Rattle.text.specs.Bytes.{bytes, hex, same, starts_with, every}
use Rattle.text.specs.Find.{first_of}
use Rattle.text.specs.Field.{fields_from}
use Rattle.text.specs.Utf8.{table as table37, seq_len, passed, valid_up_to, utf8, inside_character}
use Rattle.text.specs.declared.number.NumberError.TheVariants.{Byte}
use Rattle.at.specs.Refusal.{no, missing, invalid, refusal_no}
use Rattle.at.specs.Line.{before, ends_in, rows_named, fields_after}
use Rattle.at.specs.W26 as w26
use Rattle.at.specs.W36 as w36
use Rattle.at.specs.declared.AtPacketError.{AtPacketError}
use Rattle.at.specs.declared.FieldError.TheVariants.{NoNumber}
use Rattle.at.specs.declared.AtPacketError.TheVariants as error
use Rattle.edm.specs.Refusal as edm
use Rattle.edm.specs.declared.EdmPacketError.{EdmPacketError}
use Rattle.edm.specs.declared.EdmPacketError.TheVariants as edm-error
use Rattle.checks.specs.Check.{broken, first_broken}
use Rattle.checks.specs.Number.{not_empty, only_allowed, value_from, small_enough}
use Rattle.checks.specs.Line.{field_checks, kinds_for, text_checks, line_checks}
use Rattle.checks.specs.Frame.{frame_checks}
use Rattle.checks.specs.declared.CheckName.{CheckName}
use Rattle.checks.specs.declared.CheckName.TheVariants as c
use Rattle.checks.specs.Slot.{span_of, slots_of}
use Rattle.checks.specs.Part.{Part, ◌from◌for◌, cut, placed, left}
use Rattle.checks.specs.declared.part.PartName.{PartName}
use Rattle.checks.specs.declared.part.PartName.TheVariants.{RemoteAddress, RemotePort, LocalAddress, LocalPort, EndByte}
use Rattle.checks.specs.declared.part.Shape.TheVariants.{Connect}
use Rattle.checks.specs.declared.part.PartWalk.{PartWalk}
use Rattle.checks.proofs.OneOutcome.{one-frame}
use Rattle.checks.proofs.frame.explain as explain_frame
use Rattle.checks.proofs.w26.explain as explain_w26
use Rattle.checks.proofs.w36.explain as explain_w36
use Rattle.checks.proofs.part.PartWalk.next as next
use Rattle.checks.proofs.refusal.at_number as at_number
use Rattle.checks.proofs.refusal.edm_number as edm_number

-- what the checks find of three inputs, by computation
neither_delimiter : first_broken (frame_checks (hex "41 42")) ≡ broken c.StartByte (no 1) 0
unfolding frame_checks first_broken
neither_delimiter = refl

two_bytes_lem : first_broken (frame_checks (hex "AA 55")) ≡ broken c.FrameOfSix (no 2) 2
unfolding frame_checks first_broken
two_bytes_lem = refl

two_fields : first_broken (line_checks w26.w26 0 (bytes "\r\n+UUDPC:x,02\r\n")) ≡ broken (c.FieldByte 1) (invalid 1 (NoNumber Byte)) 9
unfolding same starts_with every first_of fields_from table37 seq_len passed valid_up_to utf8 inside_character before ends_in rows_named fields_after w26.table first_broken not_empty only_allowed value_from small_enough field_checks kinds_for text_checks line_checks
two_fields = refl

kept-text : first_broken (line_checks w36.w36 0 (bytes "\r\n+UESODA:1\r\nxxxx\r\n")) ≡ broken (c.FieldThere 2) (missing 2) 11
unfolding same starts_with every first_of fields_from table37 seq_len passed valid_up_to utf8 inside_character before ends_in rows_named fields_after w36.table first_broken not_empty only_allowed value_from small_enough field_checks kinds_for text_checks line_checks
kept-text = refl

module _ (κs : Lfts 1) (a : Dens κs explain_frame.Kinds.ps) (t : AtExit (ended_of 1 explain_frame.Kinds.ps explain_frame.Kinds.r) κs) where
  -- the last byte is no 55 either, but the first byte comes before it
  pub names-later : (e : EdmPacketError) (b : ℕ) → a.0.now ≡ hex "41 42" → explain_frame.Reads.Post κs a (Err (record { error = e; check = c.EndByte; byte = b })) t → ⊥
  names-later e b s x =
      let q = x.names ∙ ap (λ (l : List ℕ). first_broken (frame_checks l)) s ∙ neither_delimiter in
      let z : c.EndByte ≡ c.StartByte = cc in
      cc

  pub names-first : (e : EdmPacketError) (b : ℕ) → a.0.now ≡ hex "AA 55" → explain_frame.Reads.Post κs a (Err (record { error = e; check = c.FrameOfTwo; byte = b })) t → ⊥
  names-first e b s x =
      let q = x.names ∙ ap (λ (l : List ℕ). first_broken (frame_checks l)) s ∙ two_bytes_lem in
      let z : c.FrameOfTwo ≡ c.FrameOfSix = cc in
      cc

  -- for every frame: whatever check and byte are right, the next byte is not
  pub one-byte_off : (e d : EdmPacketError) (k l : CheckName) (b : ℕ) → explain_frame.Reads.Post κs a (Err (record { error = e; check = k; byte = b })) t → explain_frame.Reads.Post κs a (Err (record { error = d; check = l; byte = suc b })) t → ⊥
  one-byte_off e d k l b x y =
      let q = one-frame κs a (Err (record { error = e; check = k; byte = b })) (Err (record { error = d; check = l; byte = suc b })) t t x y in
      let z : b ≡ suc b = cc in
      omega arith

-- the type of this line is wrong too, but the handle comes before it
pub names-later-field : (κs : Lfts 1) (a : Dens κs explain_w26.Kinds.ps) (t : AtExit (ended_of 1 explain_w26.Kinds.ps explain_w26.Kinds.r) κs) (e : AtPacketError) (b : ℕ)
    → a.0.now ≡ bytes "\r\n+UUDPC:x,02\r\n" → a.1.0 ≡ 0 → explain_w26.Reads.Post κs a (Err (record { error = e; check = c.FieldType 2; byte = b })) t → ⊥
names-later-field κs a t e b s p x =
    let q = rw (s, p) at x.names in
    let r = q ∙ two_fields in
    cc

-- the text that W36 keeps ends at 11, the line at 17
pub past_the_text : (κs : Lfts 1) (a : Dens κs explain_w36.Kinds.ps) (t : AtExit (ended_of 1 explain_w36.Kinds.ps explain_w36.Kinds.r) κs) (e : AtPacketError)
    → a.0.now ≡ bytes "\r\n+UESODA:1\r\nxxxx\r\n" → a.1.0 ≡ 0 → explain_w36.Reads.Post κs a (Err (record { error = e; check = c.FieldThere 2; byte = 17 })) t → ⊥
past_the_text κs a t e s p x =
    let q = rw (s, p) at x.names in
    let r = q ∙ kept-text in
    cc

-- a walk that ends where a field is before it, and one that stands still and gives the same field for ever
pub ends_early : (κs : Lfts 1) (a : Dens κs next.Kinds.ps) (t : AtExit (ended_of 1 next.Kinds.ps next.Kinds.r) κs) (p : Part) (ps : List Part)
    → left a.1.0.now a.0 ≡ p ∷ ps → next.Reads.Post κs a None t → ⊥
ends_early κs a t p ps e x =
    let q = x ∙ e in
    cc

pub stands_still : (κs : Lfts 1) (a : Dens κs next.Kinds.ps) (t : AtExit (ended_of 1 next.Kinds.ps next.Kinds.r) κs) (n : PartName) (start len : ℕ)
    → next.Reads.Post κs a (Some (record { name = n; start = start; len = len; rest = a.0 })) t → ⊥
stands_still κs a t n start len x = let l = ap length x in omega arith

-- a connect event has the remote end first: the walk that stands before its address is not at the local one
remote_next : left (hex "AA 00 11 00 11 03 02 01 0A 00 00 07 1F 90 0A 00 00 01 C3 50 55") (record { framed = true; shape = Connect; turn = 6; at = 8 })
    ≡ (RemoteAddress from 8 for 4) ∷ (RemotePort from 12 for 2) ∷ (LocalAddress from 14 for 4) ∷ (LocalPort from 18 for 2) ∷ (EndByte from 20 for 1) ∷ []
unfolding left placed cut slots_of span_of
remote_next = refl

pub ends_exchanged : (κs : Lfts 1) (a : Dens κs next.Kinds.ps) (t : AtExit (ended_of 1 next.Kinds.ps next.Kinds.r) κs) (rest : PartWalk)
    → a.1.0.now ≡ hex "AA 00 11 00 11 03 02 01 0A 00 00 07 1F 90 0A 00 00 01 C3 50 55" → a.0 ≡ record { framed = true; shape = Connect; turn = 6; at = 8 }
    → next.Reads.Post κs a (Some (record { name = LocalAddress; start = 8; len = 4; rest = rest })) t → ⊥
ends_exchanged κs a t rest s w x =
    let q = (rw (s, w) at x) ∙ remote_next in
    cc

-- a number that is that of another refusal
pub not_twelve : (κs : Lfts 0) (a : Dens κs at_number.Kinds.ps) (t : AtExit (ended_of 0 at_number.Kinds.ps at_number.Kinds.r) κs)
    → a.0 ≡ error.Utf8DecodeFailed → at_number.Reads.Post κs a 12 t → ⊥
not_twelve κs a t e x = let n : ◌≡◌ {A = ℕ} 12 11 = x ∙ ap refusal_no e in omega arith

pub not_wrapped : (κs : Lfts 0) (a : Dens κs edm_number.Kinds.ps) (t : AtExit (ended_of 0 edm_number.Kinds.ps edm_number.Kinds.r) κs)
    → a.0 ≡ edm-error.AtPacketError error.EventUnknown → edm_number.Reads.Post κs a 11 t → ⊥
not_wrapped κs a t e x = let n : ◌≡◌ {A = ℕ} 11 16 = x ∙ ap edm.refusal_no e in omega arith
