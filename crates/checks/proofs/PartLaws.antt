-- Laws of the fields of an input: the pieces of a cut, joined, are the input; its fields lie inside it, one after the other; and each has the bytes
-- of its piece.
use Prim.Native.Nat.{ℕ, ◌+◌, ◌≤◌}
use mathlib.Core.Path.{◌≡◌, refl, sym, ◌∙◌}
use mathlib.Core.List.{List, [], ◌∷◌, ◌++◌, map, append_assoc, append-nil}
use mathlib.Core.Bool.{false, true}
use native.Mathlib.Omega.{arith}
use lib.ListN.{length, drop, length-append, length-drop, take-append-drop}
use lib.Seq.{drop-drop, take-append_seam, drop-append_seam}
use Rattle.text.specs.Bytes.{part}
use Rattle.edm.specs.Packet.{Packet}
use Rattle.checks.specs.Slot.{span_of, slots_of}
use Rattle.checks.specs.Part.{Piece, piece, passed, onward, left_by, cut, joined, contents, Part, ◌from◌for◌, placed, bytes_in, InOrder, EachWithin, packet_shape, parts_by, frame_parts}
use Rattle.checks.specs.declared.part.Shape.{Shape}
use Rattle.checks.specs.declared.slot.Slot.{Slot}

-- nothing is lost between the fields
pub cut-joined : (ks : List Slot) (t : List ℕ) → joined (cut ks t) ≡ t
unfolding cut joined
cut-joined [] t = append-nil t
cut-joined (k ∷ ks) t =
    rw (cut-joined ks (left_by k t), take-append-drop (span_of k.len (onward k t)) (onward k t)) (take-append-drop (span_of k.pass t) t)

-- places
in_order-from : (p q : ℕ) (ps : List Part) → p ≤ q → InOrder q ps → InOrder p ps
in_order-from p q [] h i = tt
in_order-from p q ((n from r for l) ∷ ps) h i = (omega (arith, i.0), i.1)

pub placed_in_order : (p : ℕ) (ps : List Piece) → InOrder p (placed p ps)
unfolding placed
placed_in_order p [] = tt
placed_in_order p (piece n b ∷ ps) = (omega arith, placed_in_order (p + length b) ps)
placed_in_order p (passed b ∷ ps) = in_order-from p (p + length b) (placed (p + length b) ps) (omega arith) (placed_in_order (p + length b) ps)

pub placed-within : (n p : ℕ) (ps : List Piece) → p + length (joined ps) ≤ n → EachWithin n (placed p ps)
unfolding placed joined
placed-within n p [] h = tt
placed-within n p (piece m b ∷ ps) h =
    let l = length-append b (joined ps) in
    (omega arith, placed-within n (p + length b) ps (omega arith))
placed-within n p (passed b ∷ ps) h = placed-within n (p + length b) ps (omega (arith, length-append b (joined ps)))

-- bytes: s holds these pieces from the place p on
next-piece : (s b rest : List ℕ) (p : ℕ) → drop p s ≡ b ++ rest → (part s p (length b) ≡ b) × (drop (p + length b) s ≡ rest)
unfolding part
next-piece s b rest p e = (rw e (take-append_seam b rest), sym (drop-drop (length b) p s) ∙ rw e (drop-append_seam b rest))

pub placed-bytes : (s rest : List ℕ) (p : ℕ) (ps : List Piece) → drop p s ≡ joined ps ++ rest → map (bytes_in s) (placed p ps) ≡ contents ps
unfolding placed joined contents
placed-bytes s rest p [] e = refl
placed-bytes s rest p (piece n b ∷ ps) e =
    let q = next-piece s b (joined ps ++ rest) p (e ∙ append_assoc b (joined ps) rest) in
    rw (q.0, placed-bytes s rest (p + length b) ps q.1)
placed-bytes s rest p (passed b ∷ ps) e =
    placed-bytes s rest (p + length b) ps (next-piece s b (joined ps ++ rest) p (e ∙ append_assoc b (joined ps) rest)).1

-- of the fields of an input by a shape, from a place on, and of those of a frame
module _ (k : Shape) (s : List ℕ) (p : ℕ) where
  pub parts_in_order : InOrder p (parts_by k s p)
  unfolding parts_by
  parts_in_order = placed_in_order p (cut (slots_of false k) (drop p s))

  pub parts_within : p ≤ length s → EachWithin (length s) (parts_by k s p)
  unfolding parts_by
  parts_within h =
      placed-within (length s) p (cut (slots_of false k) (drop p s)) (rw (cut-joined (slots_of false k) (drop p s)) (omega (arith, length-drop p s)))

  pub parts_bytes : map (bytes_in s) (parts_by k s p) ≡ contents (cut (slots_of false k) (drop p s))
  unfolding parts_by
  parts_bytes =
      placed-bytes s [] p (cut (slots_of false k) (drop p s))
      (sym (append-nil (joined (cut (slots_of false k) (drop p s))) ∙ cut-joined (slots_of false k) (drop p s)))

module _ (s : List ℕ) (k : Packet) where
  pub frame_in_order : InOrder 0 (frame_parts s k)
  unfolding frame_parts
  frame_in_order = placed_in_order 0 (cut (slots_of true (packet_shape k)) s)

  pub frame-within : EachWithin (length s) (frame_parts s k)
  unfolding frame_parts
  frame-within =
      placed-within (length s) 0 (cut (slots_of true (packet_shape k)) s) (rw (cut-joined (slots_of true (packet_shape k)) s) (omega arith))

  pub frame-bytes : map (bytes_in s) (frame_parts s k) ≡ contents (cut (slots_of true (packet_shape k)) s)
  unfolding frame_parts
  frame-bytes =
      placed-bytes s [] 0 (cut (slots_of true (packet_shape k)) s)
      (sym (append-nil (joined (cut (slots_of true (packet_shape k)) s)) ∙ cut-joined (slots_of true (packet_shape k)) s))
