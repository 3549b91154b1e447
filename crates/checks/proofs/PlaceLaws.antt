-- Laws of places: the text of a line, of a binary event and of a frame, as the code cuts them.
use Prim.Native.Nat.{ℕ, zero, suc, ◌+◌, ◌-◌, ◌≤◌, ◌<◌}
use mathlib.Core.Path.{◌≡◌, refl, sym, ap, ◌∙◌}
use mathlib.Core.List.{List, [], ◌∷◌}
use mathlib.Core.Bool.{Bool, true, false}
use native.Mathlib.Nat.{le_of_suc-le-suc, not-suc-le-zero}
use native.Mathlib.Omega.{arith}
use lib.Dec.{leb}
use lib.ListN.{length, take, drop, length-drop}
use lib.Seq.{length-take-le, take_all}
use borrow.Author.Tests.{leb-true}
use Rattle.text.specs.Find.{crlf, first_from}
use Rattle.text.specs.Bytes.{part}
use Rattle.text.specs.Field.{fields_from}
use Rattle.text.specs.FieldSteps.{left as fields_left}
use Rattle.std.specs.Prelude.{Option, Some, None}
use Rattle.std.specs.Option.{unwrap_or}
use Rattle.text.proofs.FieldLaws.{left_in}
use Rattle.text.proofs.FindLaws.{from_at}
use Rattle.at.specs.Refusal.{Refusal}
use Rattle.at.specs.Line.{before}
use Rattle.at.proofs.LineLaws.{within-rest, before-found, before-end}
use Rattle.at.proofs.BinaryLaws.{drop-part, part_length}
use Rattle.edm.specs.Frame.{payload}
use Rattle.checks.specs.Line.{inner}
use Rattle.checks.specs.Steps.{line_reason}

-- what is kept of a line's text matters only where there is a text
pub kept_matters : (p : ℕ) (line t u : List ℕ) (n : Refusal) → (2 ≤ length line → t ≡ u) → line_reason p line t n ≡ line_reason p line u n
unfolding line_reason
kept_matters p line t u n h = go (leb 2 (length line)) refl
  where
    go : (k : Bool) → leb 2 (length line) ≡ k → line_reason p line t n ≡ line_reason p line u n
    go true e = rw (h (leb-true 2 (length line) e))
    go false e = rw e

take_less : (i k : ℕ) (s : List ℕ) → i ≤ k → take i (take k s) ≡ take i s
take_less zero k s h = refl
take_less (suc i) zero s h = absurd (not-suc-le-zero h)
take_less (suc i) (suc k) [] h = refl
take_less (suc i) (suc k) (x ∷ s) h = ap (λ (t : List ℕ). x ∷ t) (take_less i k s (le_of_suc-le-suc h))

-- the text of the line that starts at a place of s
module _ (s : List ℕ) (from : ℕ) where
  inner_here : 2 ≤ length (drop from s) → inner (drop from s) ≡ drop (from + 2) (take (length s - 2) s)
  inner_here h =
      let m : from + (length (drop from s) - 2) ≡ length s - 2 = omega (arith, length-drop from s) in
      within-rest s from 2 (length (drop from s) - 2) ∙ rw m

  pub whole-text : 2 ≤ length (drop from s) → drop (from + 2) (take (length s - 2) s) ≡ inner (drop from s)
  whole-text h = sym (inner_here h)

  -- up to the next CR LF
  module _ (u : List ℕ) (e : u ≡ take (length s - 2) s) where
    text-found : (i : ℕ) → first_from crlf u (from + 2) ≡ Some i → 2 ≤ length (drop from s) → drop (from + 2) (take i s) ≡ before crlf (inner (drop from s))
    text-found i f h =
        let l : length u ≡ length s - 2 = ap length e ∙ length-take-le (length s - 2) s (omega arith) in
        let b : i < length u = (from_at crlf u (from + 2) i f).1 in
        rw (inner_here h, ← take_less i (length s - 2) s (omega arith), ← e) (before-found crlf u (from + 2) i f)

    text_to_end : first_from crlf u (from + 2) ≡ None → 2 ≤ length (drop from s) → drop (from + 2) (take (length s - 2) s) ≡ before crlf (inner (drop from s))
    text_to_end f h = rw (inner_here h, ← e) (before-end crlf u (from + 2) f)

    pub text-ends : (o : Option ℕ) → o ≡ first_from crlf u (from + 2) → 2 ≤ length (drop from s) → drop (from + 2) (take (unwrap_or o (length s - 2)) s) ≡ before crlf (inner (drop from s))
    text-ends (Some i) f h = text-found i (sym f) h
    text-ends None f h = text_to_end (sym f) h

pub ruleset texts = (whole-text, text-ends)

-- the text before a marker, which stands m bytes after a place
module _ (s u : List ℕ) (start m : ℕ) (h : start + m ≤ length s) (e : u ≡ part s 0 (start + m)) where
  pub front_text : drop start u ≡ take m (drop start s)
  unfolding part
  front_text = rw e (drop-part s start m)

  pub front_fields : fields_left u (record { at = start }) ≡ fields_from start (take m (drop start s))
  front_fields = left_in u (record { at = start }) (omega (arith, ap length e, part_length s 0 (start + m) (omega arith))) ∙ ap (fields_from start) front_text

-- the payload of a frame, from the frame without its last byte
pub without_last : (s u : List ℕ) (n : ℕ) → n ≡ length s - 1 → u ≡ part s 0 n → u ≡ take (length s - 1) s
unfolding part
without_last s u n l e = e ∙ rw l

module _ (s u : List ℕ) (e : u ≡ take (length s - 1) s) where
  pub payload_here : drop 5 u ≡ payload s
  payload_here = ap (drop 5) e

  pub payload_cut : part u 5 (length s) ≡ payload s
  unfolding part
  payload_cut = take_all (length s) (drop 5 u) (omega (arith, length-drop 5 u, ap length e, length-take-le (length s - 1) s (omega arith))) ∙ payload_here

pub ruleset payloads = (without_last, payload_cut)
