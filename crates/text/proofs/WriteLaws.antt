-- What a write leaves in the buffer, and that a number which was written is read back: one law for any bytes and every width, and each function's own
-- contract comes under it. `write.Reads.Post` is what `write` ensures. Assumes nothing.
use Prim.Native.Nat.{ℕ, ◌+◌, ◌-◌, ◌^◌, ◌≤◌, ◌<◌}
use mathlib.Core.Path.{◌≡◌, refl, sym, ◌∙◌}
use mathlib.Core.List.{List, ◌++◌, append_assoc}
use native.Mathlib.Omega.{arith}
use contract.Lifetimes.{Lfts}
use denote.Triple.Clauses.{AtExit}
use borrow.Fn.Kinds.{Dens, res_t, ended_of}
use lib.ListN.{length, take, drop}
use lib.Seq.{take_at, drop_at, length-take-le}
use Rattle.text.specs.Bytes.{part}
use Rattle.text.specs.Decimal.{decimal}
use Rattle.text.specs.Put.{placed, wrote, after}
use Rattle.text.specs.Number.{some, shown}
use Rattle.text.specs.declared.number.NumberError.{NumberError}
use Rattle.std.specs.Prelude.{Option, Some, None, Result, Ok}
use Rattle.text.proofs.Readers.{Reader, ps, result, Post, read8, read16, read32, shown-same}
use Rattle.text.proofs.PutLaws.{room, ends, refuses}
use Rattle.text.proofs.PutAppend.{front_length}
use Rattle.text.proofs.ReadBack.{number_back}
use Rattle.text.proofs.put.put as put
use Rattle.text.proofs.decimal.write as write

-- a write that was refused changed no byte; one that ended at `end` changed none before its place and none from there on
abbrev pub Keeps : (b : List ℕ) (at : ℕ) (answer : Option ℕ) (left : List ℕ) → Type 0
Keeps b at answer left = (answer ≡ None → left ≡ b) × ((end : ℕ) → answer ≡ Some end → (take at left ≡ take at b) × (drop end left ≡ drop end b))

module _ (b : List ℕ) (at : ℕ) (ds : List ℕ) (h : at + length ds ≤ length b) where
  kept : (take at (placed b at ds) ≡ take at b) × (drop (at + length ds) (placed b at ds) ≡ drop (at + length ds) b) × (part (placed b at ds) at (at + length ds - at) ≡ ds)
  unfolding placed part
  kept =
      let start = length-take-le at b (omega arith) in
      let rest = drop (at + length ds) b in
      let count : at + length ds - at ≡ length ds = omega arith in (
        rw (append_assoc (take at b) ds rest) (take_at (take at b) (ds ++ rest) at start),
        drop_at (take at b ++ ds) rest (at + length ds) (front_length b at ds (omega arith)),
        rw (append_assoc (take at b) ds rest, drop_at (take at b) (ds ++ rest) at start, count) (take_at ds rest (length ds) refl),
      )

module _ (b : List ℕ) (at : ℕ) (ds : List ℕ) (answer : Option ℕ) (left : List ℕ) (p : (answer ≡ wrote b at ds) × (left ≡ after b at ds)) where
  ended : (end : ℕ) → answer ≡ Some end → (take at left ≡ take at b) × (drop end left ≡ drop end b) × (part left at (end - at) ≡ ds)
  ended end q =
      let s = ends b at ds end (sym p.0 ∙ q) in
      let l : left ≡ placed b at ds = p.1 ∙ (room b at ds s.0).1 in
      rw (l, s.1) (kept b at ds s.0)

  keeps : Keeps b at answer left
  keeps = ((λ q. p.1 ∙ refuses b at ds (sym p.0 ∙ q)), λ end q. ((ended end q).0, (ended end q).1))

pub keeps-put : (κs : Lfts 2) (a : Dens κs put.Kinds.ps) (e : AtExit (ended_of 2 put.Kinds.ps put.Kinds.r) κs) (answer : Option ℕ)
    → put.Reads.Post κs a answer e → Keeps a.0.now a.1.0 answer e.0.now
keeps-put κs a e answer p = keeps a.0.now a.1.0 a.1.1.0.now answer e.0.now p

pub keeps-write : (κs : Lfts 1) (a : Dens κs write.Kinds.ps) (e : AtExit (ended_of 1 write.Kinds.ps write.Kinds.r) κs) (answer : Option ℕ)
    → write.Reads.Post κs a answer e → Keeps a.0.now a.1.0 answer e.0.now
keeps-write κs a e answer p = keeps a.0.now a.1.0 (decimal a.1.1.0) answer e.0.now p

-- what was written is read back at any width that has room for it, and at the three that there are
pub read_back : (r : Reader) (κs : Lfts 1) (a : Dens κs write.Kinds.ps) (e : AtExit (ended_of 1 write.Kinds.ps write.Kinds.r) κs) (end : ℕ)
    (κt : Lfts 2) (s : Dens κt (ps r)) (f : AtExit (ended_of 2 (ps r) (result r)) κt) (x : (res_t (result r) κt).Denot)
    → a.1.1.0 < 2 ^ r.width.bits → write.Reads.Post κs a (Some end) e → s.0.now ≡ part e.0.now a.1.0 (end - a.1.0) → Post r κt s x f
    → shown r.width.value x ≡ some a.1.1.0
read_back r κs a e end κt s f x h p t q =
    (rw (t, (ended a.0.now a.1.0 (decimal a.1.1.0) (Some end) e.0.now p end refl).2) at q) ∙ number_back r.width.bits a.1.1.0 h

pub read_back8 : (κs : Lfts 1) (a : Dens κs write.Kinds.ps) (e : AtExit (ended_of 1 write.Kinds.ps write.Kinds.r) κs) (end : ℕ)
    (κt : Lfts 2) (s : Dens κt (ps read8)) (f : AtExit (ended_of 2 (ps read8) (result read8)) κt) (x : Result ℕ NumberError)
    → a.1.1.0 < 2 ^ 8 → write.Reads.Post κs a (Some end) e → s.0.now ≡ part e.0.now a.1.0 (end - a.1.0) → Post read8 κt s x f → x ≡ Ok a.1.1.0
read_back8 κs a e end κt s f x h p t q = shown-same x (Ok a.1.1.0) (read_back read8 κs a e end κt s f x h p t q)

pub read_back16 : (κs : Lfts 1) (a : Dens κs write.Kinds.ps) (e : AtExit (ended_of 1 write.Kinds.ps write.Kinds.r) κs) (end : ℕ)
    (κt : Lfts 2) (s : Dens κt (ps read16)) (f : AtExit (ended_of 2 (ps read16) (result read16)) κt) (x : Result ℕ NumberError)
    → a.1.1.0 < 2 ^ 16 → write.Reads.Post κs a (Some end) e → s.0.now ≡ part e.0.now a.1.0 (end - a.1.0) → Post read16 κt s x f → x ≡ Ok a.1.1.0
read_back16 κs a e end κt s f x h p t q = shown-same x (Ok a.1.1.0) (read_back read16 κs a e end κt s f x h p t q)

pub read_back32 : (κs : Lfts 1) (a : Dens κs write.Kinds.ps) (e : AtExit (ended_of 1 write.Kinds.ps write.Kinds.r) κs) (end : ℕ)
    (κt : Lfts 2) (s : Dens κt (ps read32)) (f : AtExit (ended_of 2 (ps read32) (result read32)) κt) (x : Result ℕ NumberError)
    → a.1.1.0 < 2 ^ 32 → write.Reads.Post κs a (Some end) e → s.0.now ≡ part e.0.now a.1.0 (end - a.1.0) → Post read32 κt s x f → x ≡ Ok a.1.1.0
read_back32 κs a e end κt s f x h p t q = shown-same x (Ok a.1.1.0) (read_back read32 κs a e end κt s f x h p t q)
