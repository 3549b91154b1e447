-- The promises of `command::write`, and of the functions that write one command each, allow one outcome only, in the answer and in every byte of the lent
-- buffer, and wrong writers break that of `write`. They are the functions' own contracts: `write.Reads.Post` is what `write` ensures. Assumes nothing.
use Prim.Native.Nat.{ℕ, ◌+◌, ◌≤◌, ◌<◌}
use mathlib.Core.Path.{◌≡◌, refl, sym, ap, ◌∙◌}
use mathlib.Core.List.{List, [], ◌∷◌, ◌++◌}
use native.Mathlib.Omega.{arith}
use contract.Lifetimes.{Lfts}
use denote.Triple.Clauses.{AtExit}
use borrow.Fn.Kinds.{Dens, ended_of}
use lib.ListN.{length, take, drop, get_or}
use lib.Seq.{take_at}
use Rattle.text.proofs.OneOutcome.{One, distinguished}
use Rattle.at.specs.declared.Text.{Text}
use Rattle.edm.specs.Refusal.{refusal_of}
use Rattle.at.specs.Written.{answer_to, after}
use Rattle.at.specs.Refusal.{Refusal, OrRefused, good, refused}
use Rattle.edm.specs.Command.{frame, Command, command, in_source, request_of, command_of, to_write, shown}
use Rattle.edm.specs.declared.Channel.{Channel}
use Rattle.edm.specs.declared.EdmPacketError.{EdmPacketError}
use Rattle.edm.specs.declared.EdmPacket.TheVariants as is
use Rattle.std.specs.Prelude.{Result, Ok, Err}
use Rattle.edm.proofs.Refusals.{error_of, error_back}
use Rattle.edm.proofs.CommandLaws.{frame-length, within, takes, as_command, framed, in_source_lem}
use Rattle.edm.proofs.command.write_data as write-data
use Rattle.edm.proofs.command.write_request as write_request
use Rattle.edm.proofs.command.write_resend as write_resend
use Rattle.edm.proofs.command.write as write

-- `shown` distinguishes any two answers: it has a left inverse
abbrev unshown : OrRefused ℕ → Result ℕ EdmPacketError
unshown (good n) = Ok n
unshown (refused n) = Err (error_of n)

back : (r : Result ℕ EdmPacketError) → unshown (shown r) ≡ r
back (Ok n) = refl
back (Err e) = ap Err (error_back e)

pub shown_injective : (r q : Result ℕ EdmPacketError) → shown r ≡ shown q → r ≡ q
shown_injective = distinguished shown unshown back

-- the answer, and every byte of the lent buffer
pub one-data : One 2 write-data.Kinds.ps write-data.Kinds.r write-data.Reads.Post (λ κs x s. x) × One 2 write-data.Kinds.ps write-data.Kinds.r write-data.Reads.Post (λ κs x s. s.0.now)
one-data = ((λ κs a x y s t p q. shown_injective x y (p.answers ∙ sym q.answers)), λ κs a x y s t p q. p.leaves ∙ sym q.leaves)

pub one_request : One 2 write_request.Kinds.ps write_request.Kinds.r write_request.Reads.Post (λ κs x s. x) × One 2 write_request.Kinds.ps write_request.Kinds.r write_request.Reads.Post (λ κs x s. s.0.now)
one_request = ((λ κs a x y s t p q. shown_injective x y (p.answers ∙ sym q.answers)), λ κs a x y s t p q. p.leaves ∙ sym q.leaves)

pub one_resend : One 1 write_resend.Kinds.ps write_resend.Kinds.r write_resend.Reads.Post (λ κs x s. x) × One 1 write_resend.Kinds.ps write_resend.Kinds.r write_resend.Reads.Post (λ κs x s. s.0.now)
one_resend = ((λ κs a x y s t p q. shown_injective x y (p.answers ∙ sym q.answers)), λ κs a x y s t p q. p.leaves ∙ sym q.leaves)

pub one-write : One 2 write.Kinds.ps write.Kinds.r write.Reads.Post (λ κs x s. x) × One 2 write.Kinds.ps write.Kinds.r write.Reads.Post (λ κs x s. s.0.now)
one-write = ((λ κs a x y s t p q. shown_injective x y (p.answers ∙ sym q.answers)), λ κs a x y s t p q. p.leaves ∙ sym q.leaves)

wrote-bytes : (n : ℕ) (w : OrRefused (List ℕ)) → good n ≡ answer_to w → (f : List ℕ) × (w ≡ good f) × (n ≡ length f)
wrote-bytes n (good f) e = (f, refl, cc)
wrote-bytes n (refused m) e = absurd cc

refused-bytes : (m : Refusal) (b : List ℕ) (w : OrRefused (List ℕ)) → refused m ≡ answer_to w → after b w ≡ b
refused-bytes m b (good f) e = absurd cc
refused-bytes m b (refused n) e = refl

first_byte : (id : ℕ) (t b : List ℕ) → get_or (frame id t ++ b) 0 0 ≡ 0xAA
unfolding frame
first_byte id t b = refl

-- whatever the promise allows of a call
module _ (κs : Lfts 2) (a : Dens κs write.Kinds.ps) (e : AtExit (ended_of 2 write.Kinds.ps write.Kinds.r) κs) where
  abbrev buf : List ℕ
  buf = a.0.now

  abbrev to_put : OrRefused (List ℕ)
  to_put = to_write (length buf) a.1.0.now a.1.1.0

  -- a length that is answered is that of the frame to write, which stands in the buffer: a writer invents none
  pub says_the_length : (n : ℕ) → write.Reads.Post κs a (Ok n) e → (f : List ℕ) × (to_put ≡ good f) × (n ≡ length f) × (e.0.now ≡ f ++ drop n buf)
  says_the_length n p =
      let w = wrote-bytes n to_put p.answers in
      (w.0, w.1, w.2, p.leaves ∙ ap (after buf) w.1 ∙ ap (λ (k : ℕ). w.0 ++ drop k buf) (sym w.2))

  -- so the front of the buffer, as long as the answer says, is that frame, and what holds of it (WrittenRead) holds of the bytes that a caller sends
  pub frame_in_front : (n : ℕ) → write.Reads.Post κs a (Ok n) e → to_put ≡ good (take n e.0.now)
  frame_in_front n p =
      let w = says_the_length n p in
      w.1 ∙ ap good (sym (ap (take n) w.3 ∙ take_at w.0 (drop n buf) n (sym w.2)))

  pub length_bounds : (n : ℕ) → write.Reads.Post κs a (Ok n) e → (6 ≤ n) × (n ≤ 4099) × (n ≤ length buf)
  length_bounds n p =
      let w = says_the_length n p in
      let f = framed (length buf) a.1.0.now a.1.1.0 w.0 w.1 in
      let l = w.2 ∙ ap length f.frames ∙ frame-length f.id f.payload in
      let s = f.short in
      let r = f.roomy in
      (omega arith, omega arith, omega arith)

  -- a writer that answers a length and writes nothing: the buffer would have to begin as a frame does already
  pub writes_something : (n : ℕ) → write.Reads.Post κs a (Ok n) e → e.0.now ≡ buf → (get_or buf 0 0 ≡ 0xAA → ⊥) → ⊥
  writes_something n p same other =
      let w = says_the_length n p in
      let f = framed (length buf) a.1.0.now a.1.1.0 w.0 w.1 in
      let g : buf ≡ frame f.id f.payload ++ drop n buf = sym same ∙ w.3 ∙ ap (λ (l : List ℕ). l ++ drop n buf) f.frames in
      other (ap (λ (l : List ℕ). get_or l 0 0) g ∙ first_byte f.id f.payload (drop n buf))

  -- a refused write that has changed a byte
  pub refused_changes_nothing : (x : EdmPacketError) → write.Reads.Post κs a (Err x) e → e.0.now ≡ buf
  refused_changes_nothing x p = p.leaves ∙ refused-bytes (refusal_of x) buf to_put p.answers

  -- a length is answered only where the source has the place that the command is made of
  in_place : (n start len : ℕ) (make : List ℕ → OrRefused Command) → command_of a.1.0.now a.1.1.0 ≡ in_source a.1.0.now start len make
      → write.Reads.Post κs a (Ok n) e → start + len ≤ length a.1.0.now
  in_place n start len make m p =
      let w = says_the_length n p in
      let f = framed (length buf) a.1.0.now a.1.1.0 w.0 w.1 in
      (in_source_lem a.1.0.now start len make f.id f.payload (sym m ∙ f.commands)).0

  -- a writer that sends data, or a request, whose place runs past the source
  pub past_source_refused : (n : ℕ) (c : Channel) (d : Text) → a.1.1.0 ≡ is.DataCommand c d → length a.1.0.now < d.start + d.len
      → write.Reads.Post κs a (Ok n) e → ⊥
  past_source_refused n c d r h p =
      let i = in_place n d.start d.len (λ t. good (command 0x36 (c.0 ∷ t))) (ap (command_of a.1.0.now) r) p in
      omega arith

  pub past_source_refused_request : (n : ℕ) (t : Text) → a.1.1.0 ≡ is.ATRequest t → length a.1.0.now < t.start + t.len
      → write.Reads.Post κs a (Ok n) e → ⊥
  past_source_refused_request n t r h p =
      let i = in_place n t.start t.len request_of (ap (command_of a.1.0.now) r) p in
      omega arith

  -- a writer that refuses everything
  pub resend_is-written : (x : EdmPacketError) → a.1.1.0 ≡ is.ResendConnectEvents → 6 ≤ length buf → write.Reads.Post κs a (Err x) e → ⊥
  resend_is-written x r h p =
      let k = as_command (length buf) a.1.0.now a.1.1.0 (ap (command_of a.1.0.now) r) in
      let w = k ∙ takes (length buf) (good (command 0x56 [])) h ∙ within (length buf) 0x56 [] (omega arith) (omega arith) in
      cc p.answers
