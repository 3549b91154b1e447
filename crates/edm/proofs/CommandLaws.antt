-- Laws of what is to be written, and of a frame that is put into a buffer part by part. Assumes nothing.
use mathlib.Core.Path.{◌≡◌, refl, sym, ap, ◌∙◌}
use mathlib.Core.List.{List, [], ◌∷◌, ◌++◌}
use mathlib.Core.Bool.{Bool, true, false, cond, ◌&&◌}
use Prim.Native.Nat.{ℕ, ◌+◌, ◌-◌, min, ◌/◌, ◌%◌, ◌≤◌, ◌<◌}
use native.Mathlib.Omega.{arith}
use native.Mathlib.Nat.{zero-add, div-eq_of_lt, mod-eq_of_lt}
use lib.Dec.{leb, ltb}
use lib.ListN.{length, drop, length-append, length-drop}
use lib.Seq.{length-take-le}
use borrow.Author.Tests.{ltb-true, ltb-false, le-leb, lt-leb, leb-true, le-ltb, lt-ltb}
use Rattle.text.specs.Bytes.{part}
use Rattle.text.specs.Utf8.{utf8}
use Rattle.text.specs.Put.{after as put}
use Rattle.text.proofs.PutAppend.{after_append, after_front}
use Rattle.at.specs.Written.{answer_to, after}
use Rattle.at.specs.Refusal.{OrRefused, good, refused, no}
use Rattle.edm.specs.Command.{frame, Command, command, command_of, in_source, request_of, room_of, to_send, to_write, fitted, shown, Writes}
use Rattle.edm.specs.declared.EdmPacketError.{EdmPacketError}
use Rattle.std.specs.Prelude.{Result, Ok, Err}
use Rattle.std.specs.Result.{IsErrAnd}
use Rattle.std.proofs.lemmas.Result.{err_from_is_err_and}
use Rattle.edm.specs.declared.EdmPacket.{EdmPacket}
use Rattle.edm.specs.declared.EdmPacketError.TheVariants as error

-- a frame is six bytes longer than its payload
pub frame-length : (id : ℕ) (t : List ℕ) → length (frame id t) ≡ length t + 6
unfolding frame
frame-length id t = omega (arith, length-append t (0x55 ∷ []))

-- a payload within both bounds is framed, and one over either is refused
module _ (room id : ℕ) (t : List ℕ) where
  pub within : length t ≤ 4093 → length t + 6 ≤ room → fitted room (good (command id t)) ≡ good (frame id t)
  within h k = rw (le-leb (length t) 4093 h, le-leb (length t + 6) room k)

  pub over : (length t ≤ 4093 → room < length t + 6) → fitted room (good (command id t)) ≡ refused (no 10)
  over h = go (leb (length t) 4093) refl
    where
      go : (l : Bool) → leb (length t) 4093 ≡ l → cond (l && leb (length t + 6) room) (good (frame id t)) (refused (no 10)) ≡ refused (no 10)
      go true e = rw (lt-leb (length t + 6) room (h (leb-true (length t) 4093 e)))
      go false e = refl

-- a refusal leaves the buffer as it was
pub refuses : {w : OrRefused (List ℕ)} {r : Result ℕ EdmPacketError} (b : List ℕ) (n : ℕ) → w ≡ refused (no n) → shown r ≡ refused (no n) → Writes b w r b
refuses b n p q = record { answers = rw p q; leaves = rw p }

-- bytes put just after those that were put at the front
later : (b xs ys c d : List ℕ) (at : ℕ) → at ≡ length xs → length xs + length ys ≤ length b → c ≡ put b 0 xs → d ≡ put c at ys → d ≡ put b 0 (xs ++ ys)
later b xs ys c d at e h p q = q ∙ rw (p, e ∙ sym (zero-add (length xs))) (after_append b 0 xs ys (omega arith))

-- the five bytes in front of a payload of n bytes, each cut to a byte as the code has them
abbrev pub head : ℕ → ℕ → List ℕ
head n id = 0xAA ∷ (n + 2) / 256 % 256 ∷ (n + 2) % 256 ∷ 0 ∷ id ∷ []

-- a payload of three parts: its frame put in a row, from the head to 55, or a refusal
module _ (b : List ℕ) (id : ℕ) (x y z : List ℕ) where
  size : length (x ++ y ++ z) ≡ length x + length y + length z
  size = simp length-append

  parts : id < 256 → length x + length y + length z ≤ 4093 → head (length x + length y + length z) id ++ x ++ y ++ z ++ 0x55 ∷ [] ≡ frame id (x ++ y ++ z)
  unfolding frame
  parts i n =
      let hi : (length x + length y + length z + 2) / 256 % 256 ≡ (length x + length y + length z + 2) / 256 = omega arith in
      rw (size, hi, div-eq_of_lt i, mod-eq_of_lt i)

  module _ (n : length x + length y + length z ≤ 4093) (h : length x + length y + length z + 6 ≤ length b) where
    fits : fitted (length b) (good (command id (x ++ y ++ z))) ≡ good (frame id (x ++ y ++ z))
    fits = let l = size in within (length b) id (x ++ y ++ z) (omega arith) (omega arith)

    pub wrote_parts : good (length x + length y + length z + 6) ≡ answer_to (fitted (length b) (good (command id (x ++ y ++ z))))
    wrote_parts =
        let l = size in
        let s = frame-length id (x ++ y ++ z) in
        rw fits (ap good (omega arith))

    pub left_parts : id < 256 → (b₁ b₂ b₃ b₄ b₅ : List ℕ)
        → b₁ ≡ put b 0 (head (length x + length y + length z) id) → b₂ ≡ put b₁ 5 x → b₃ ≡ put b₂ (5 + length x) y
        → b₄ ≡ put b₃ (5 + length x + length y) z → b₅ ≡ put b₄ (5 + (length x + length y + length z)) (0x55 ∷ [])
        → b₅ ≡ after b (fitted (length b) (good (command id (x ++ y ++ z))))
    left_parts i b₁ b₂ b₃ b₄ b₅ p₁ p₂ p₃ p₄ p₅ =
        let m = length-append x y in
        let l = size in
        let s = frame-length id (x ++ y ++ z) in
        let f = head (length x + length y + length z) id in
        let q₂ = later b f x b₁ b₂ 5 refl (omega arith) p₁ p₂ in
        let q₃ = later b (f ++ x) y b₂ b₃ (5 + length x) (omega arith) (omega arith) q₂ p₃ in
        let q₄ = later b (f ++ x ++ y) z b₃ b₄ (5 + length x + length y) (omega arith) (omega arith) q₃ p₄ in
        let q₅ = later b (f ++ x ++ y ++ z) (0x55 ∷ []) b₄ b₅ (5 + (length x + length y + length z)) (omega arith) (omega arith) q₄ p₅ in
        rw fits (q₅ ∙ rw (parts i n) (after_front b (frame id (x ++ y ++ z)) (omega arith)))

  pub refused_parts : (length x + length y + length z ≤ 4093 → length b < length x + length y + length z + 6)
      → Writes b (fitted (length b) (good (command id (x ++ y ++ z)))) (Err error.PacketEncodePayloadSizeInvalid) b
  refused_parts h = let l = size in refuses b 10 (over (length b) id (x ++ y ++ z) (λ k. let g = h (omega arith) in omega arith)) refl

-- a buffer of six bytes and more takes the command, and a shorter one is refused
module _ (room : ℕ) (k : OrRefused Command) where
  pub takes : 6 ≤ room → to_send room k ≡ fitted room k
  unfolding to_send
  takes h = rw (le-ltb room 6 h)

  pub takes_none : room < 6 → to_send room k ≡ refused (no 2)
  unfolding to_send
  takes_none h = rw (lt-ltb room 6 h)

-- a source that lacks a place
pub refused_place : (b : List ℕ) (k : OrRefused Command) (r : Result ℕ EdmPacketError) (e : EdmPacketError) → 6 ≤ length b → k ≡ refused (no 10)
    → e ≡ error.PacketEncodePayloadSizeInvalid → IsErrAnd r (λ y. y ≡ e) → Writes b (to_send (length b) k) r b
refused_place b k r e h q z i = let d = err_from_is_err_and r i in rw (d.1, d.2, z) (refuses b 10 (takes (length b) k h ∙ rw q) refl)

-- what the room of a buffer says of its length
pub refused_short : (b : List ℕ) (k : OrRefused Command) (x r : Result ℕ EdmPacketError) (e : EdmPacketError) → x ≡ room_of (length b) → x ≡ Err e
    → IsErrAnd r (λ y. y ≡ e) → Writes b (to_send (length b) k) r b
refused_short b k x r e p q i = go (ltb (length b) 6) refl
  where
    d : (y : EdmPacketError) × (r ≡ Err y) × (y ≡ e)
    d = err_from_is_err_and r i

    go : (l : Bool) → ltb (length b) 6 ≡ l → Writes b (to_send (length b) k) r b
    go true h = let y : Err error.PacketDecodeTargetMemorySizeInvalid ≡ Err e = sym (p ∙ rw h) ∙ q in rw (d.1, d.2, ← y) (refuses b 2 (takes_none (length b) k (ltb-true (length b) 6 h)) refl)
    go false h = let y : Ok (min (length b - 6) 4093) ≡ Err e = sym (p ∙ rw h) ∙ q in absurd cc

pub roomy : (b : List ℕ) (x : Result ℕ EdmPacketError) (n : ℕ) → x ≡ room_of (length b) → x ≡ Ok n → (6 ≤ length b) × (n ≡ min (length b - 6) 4093)
roomy b x n p q = go (ltb (length b) 6) refl
  where
    go : (l : Bool) → ltb (length b) 6 ≡ l → (6 ≤ length b) × (n ≡ min (length b - 6) 4093)
    go true h = let y : Err error.PacketDecodeTargetMemorySizeInvalid ≡ Ok n = sym (p ∙ rw h) ∙ q in absurd cc
    go false h = let y : Ok (min (length b - 6) 4093) ≡ Ok n = sym (p ∙ rw h) ∙ q in (ltb-false (length b) 6 h, cc)

-- so where the command is fitted into such a buffer, it is sent
pub sends : (b : List ℕ) (k : OrRefused Command) {r : Result ℕ EdmPacketError} {e : List ℕ} → 6 ≤ length b → Writes b (fitted (length b) k) r e → Writes b (to_send (length b) k) r e
sends b k h w = rw (takes (length b) k h) w

-- a packet is written as its command is sent
pub as_command : (room : ℕ) (src : List ℕ) (p : EdmPacket) {k : OrRefused Command} → command_of src p ≡ k → to_write room src p ≡ to_send room k
unfolding to_write
as_command room src p q = rw q

pub writes : (b src : List ℕ) (p : EdmPacket) {k : OrRefused Command} {r : Result ℕ EdmPacketError} {e : List ℕ} → command_of src p ≡ k
    → Writes b (to_send (length b) k) r e → Writes b (to_write (length b) src p) r e
writes b src p q w = rw (as_command (length b) src p q) w

-- bytes to write are the frame of the packet's command, which is within both bounds
pub record Framed (room : ℕ) (k : OrRefused Command) (f : List ℕ) : Type 0 where
  pub id : ℕ
  pub payload : List ℕ
  pub commands : k ≡ good (command id payload)
  pub frames : f ≡ frame id payload
  pub short : length payload ≤ 4093
  pub roomy : length payload + 6 ≤ room

pub framed : (room : ℕ) (src : List ℕ) (p : EdmPacket) (f : List ℕ) → to_write room src p ≡ good f → Framed room (command_of src p) f
unfolding to_send to_write
framed room src p f e = go (ltb room 6) (command_of src p) e
  where
    fits : (id : ℕ) (t : List ℕ) (l m : Bool) → leb (length t) 4093 ≡ l → leb (length t + 6) room ≡ m
        → cond (l && m) (good (frame id t)) (refused (no 10)) ≡ good f → Framed room (good (command id t)) f
    fits id t true true l m q =
        record { id = id; payload = t; commands = refl; frames = cc; short = leb-true (length t) 4093 l; roomy = leb-true (length t + 6) room m }
    fits id t true false l m q = absurd cc
    fits id t false m l n q = absurd cc

    go : (s : Bool) (k : OrRefused Command) → cond s (refused (no 2)) (fitted room k) ≡ good f → Framed room k f
    go true k q = absurd cc
    go false (good (command id t)) q = fits id t (leb (length t) 4093) (leb (length t + 6) room) refl refl q
    go false (refused n) q = absurd cc

-- a command that is made of a place in the source has that place
pub in_source_lem : (src : List ℕ) (start len : ℕ) (make : List ℕ → OrRefused Command) (id : ℕ) (t : List ℕ) → in_source src start len make ≡ good (command id t)
    → (start + len ≤ length src) × (make (part src start len) ≡ good (command id t))
in_source_lem src start len make id t e = go (leb (start + len) (length src)) refl e
  where
    go : (l : Bool) → leb (start + len) (length src) ≡ l → cond l (make (part src start len)) (refused (no 10)) ≡ good (command id t)
        → (start + len ≤ length src) × (make (part src start len) ≡ good (command id t))
    go true h q = (leb-true (start + len) (length src) h, q)
    go false h q = absurd cc

-- a request is UTF-8
pub is_request : (u : List ℕ) (id : ℕ) (t : List ℕ) → request_of u ≡ good (command id t) → (utf8 u ≡ true) × (id ≡ 0x44) × (t ≡ u ++ 13 ∷ [])
is_request u id t e = go (utf8 u) refl e
  where
    go : (v : Bool) → utf8 u ≡ v → cond v (good (command 0x44 (u ++ 13 ∷ []))) (refused (no 8)) ≡ good (command id t) → (utf8 u ≡ true) × (id ≡ 0x44) × (t ≡ u ++ 13 ∷ [])
    go true h q = (h, cc, cc)
    go false h q = absurd cc

-- a part within the source is as long as it says
pub part_length : (s : List ℕ) (start len : ℕ) → start + len ≤ length s → length (part s start len) ≡ len
unfolding part
part_length s start len h = length-take-le len (drop start s) (simp length-drop (omega arith))
