-- For a reader that streams: 4,115 bytes of what is left decide the record, and a record that is found in fewer stays found. Assumes nothing.
use Prim.Native.Nat.{ℕ, ◌+◌, ◌≤◌}
use mathlib.Core.Path.{◌≡◌, refl, sym, ap, ◌∙◌}
use mathlib.Core.List.{List, [], ◌++◌, append-nil}
use mathlib.Core.Bool.{Bool, true, false, cond, ◌&&◌}
use native.Mathlib.Omega.{arith}
use contract.Lifetimes.{Lfts}
use denote.Ref.{Bor}
use denote.Triple.Clauses.{AtExit}
use borrow.Fn.Kinds.{ended_of}
use lib.Dec.{eqb, leb}
use lib.ListN.{length, take, drop, length-append, length-drop}
use lib.Seq.{drop-append-add, drop-append-le, take-append-le}
use borrow.Author.Tests.{le-leb, leb-true, ne_eqb}
use Rattle.text.specs.Bytes.{part}
use Rattle.pcap.specs.Number.{value_of}
use Rattle.pcap.specs.Read.{Outcome, found, end, refusal, number, sound, record_in, read_record, record_shown}
use Rattle.pcap.specs.declared.ByteOrder.{ByteOrder}
use Rattle.pcap.specs.declared.Record.{Record}
use Rattle.pcap.specs.declared.CaptureError.{CaptureError}
use Rattle.std.specs.Prelude.{Option, Some, Result, Ok}
use Rattle.pcap.proofs.ReadLaws.{record_good, is_found}
use Rattle.pcap.proofs.read.read_record as read_record_lem

-- a frame within the bound is not cut
uncut : (n room : ℕ) → 4115 ≤ room → (leb n 4099 && leb (16 + n) room) ≡ leb n 4099
uncut n room h = go (leb n 4099) refl
  where
    go : (l : Bool) → leb n 4099 ≡ l → (l && leb (16 + n) room) ≡ l
    go true e = let k = leb-true n 4099 e in le-leb (16 + n) room (omega arith)
    go false e = refl

module _ (o : ByteOrder) (u v : List ℕ) where
  number_in : (i : ℕ) → i + 4 ≤ length u → number o (u ++ v) i ≡ number o u i
  unfolding part
  number_in i h =
      let l = length-drop i u in
      ap (value_of o) (ap (take 4) (drop-append-le i u v (omega arith)) ∙ take-append-le 4 (drop i u) v (omega arith))

  module _ (h : 4115 ≤ length u) where
    sound_in : sound o (u ++ v) ≡ sound o u
    sound_in =
        let l = length-append u v in
        rw (
          number_in 4 (omega arith),
          number_in 8 (omega arith),
          number_in 12 (omega arith),
          le-leb 16 (length (u ++ v)) (omega arith),
          le-leb 16 (length u) (omega arith),
          uncut (number o u 8) (length (u ++ v)) (omega arith),
          uncut (number o u 8) (length u) h,
        )

    pub window : (at : ℕ) → record_in o at (u ++ v) ≡ record_in o at u
    unfolding record_in
    window at =
        let l = length-append u v in
        rw (
          sound_in,
          ne_eqb (length (u ++ v)) 0 (λ z. omega arith),
          ne_eqb (length u) 0 (λ z. omega arith),
          number_in 0 (omega arith),
          number_in 4 (omega arith),
          number_in 8 (omega arith),
        )

-- a record that is found stays found, whatever follows
pub found-stays : (o : ByteOrder) (u v : List ℕ) (at a b start len past : ℕ) → record_in o at u ≡ found a b start len past → record_in o at (u ++ v) ≡ found a b start len past
found-stays o u v at a b start len past e =
    let r = is_found o at u a b start len past e in
    let l = length-append u v in
    let m = r.roomy in
    let n₄ = number_in o u v 4 (omega arith) in
    let n₈ = number_in o u v 8 (omega arith) in
    let n₁₂ = number_in o u v 12 (omega arith) in
    let k = r.kept in
    let t = r.twice in
    let s = r.second in
    let c = r.microseconds in
    let g = record_good o at (u ++ v) (omega arith) (omega arith) (omega arith) (omega (arith, r.short)) (omega arith) in
    g ∙ rw (number_in o u v 0 (omega arith), n₄, n₈, ← r.seconds, ← c, ← k, ← r.passes, ← r.starts)

-- an outcome whose places count from a part that begins at a place of the file
abbrev pub moved : ℕ → Outcome → Outcome
moved k (found a b start len past) = found a b (k + start) len (k + past)
moved k end = end
moved k (refusal n) = refusal n

counted_on : (o : ByteOrder) (k at : ℕ) (t : List ℕ) → record_in o (k + at) t ≡ moved k (record_in o at t)
unfolding record_in
counted_on o k at t = go (eqb (length t) 0) (sound o t)
  where
    go : (y z : Bool) → cond y end (cond z (found (number o t 0) (number o t 4) (k + at + 16) (number o t 8) (k + at + 16 + number o t 8)) (refusal 20))
        ≡ moved k (cond y end (cond z (found (number o t 0) (number o t 4) (at + 16) (number o t 8) (at + 16 + number o t 8)) (refusal 20)))
    go true z = refl
    go false true = rw (let p : k + at + 16 ≡ k + (at + 16) = omega arith in p, let q : k + (at + 16) + number o t 8 ≡ k + (at + 16 + number o t 8) = omega arith in q)
    go false false = refl

-- The file is `pre ++ (u ++ v)`, and a reader holds u. What `read_record` answers at a place of u is the answer of the file there, where it finds a record,
-- or has 4,115 bytes to look at, or nothing follows: by its own contract
module _ (o : ByteOrder) (pre u v : List ℕ) (at : ℕ) (inside : at ≤ length u) where
  there : read_record o (pre ++ (u ++ v)) (length pre + at) ≡ moved (length pre) (record_in o at (drop at u ++ v))
  there = ap (record_in o (length pre + at)) (drop-append-add pre (u ++ v) at ∙ drop-append-le at u v inside) ∙ counted_on o (length pre) at (drop at u ++ v)

  module _ (κs : Lfts 1) (s : Bor (List ℕ)) (held : s.now ≡ u) (i : AtExit (ended_of 1 read_record_lem.Kinds.ps read_record_lem.Kinds.r) κs) where
    pub found-is-found : (r : Record) → read_record_lem.Reads.Post κs (o, (s, (at, tt))) (Ok (Some r)) i
        → read_record o (pre ++ (u ++ v)) (length pre + at) ≡ moved (length pre) (record_shown (Ok (Some r)))
    found-is-found r p =
        there ∙ ap (moved (length pre)) (found-stays o (drop at u) v at r.seconds r.microseconds r.start r.len r.next (sym (rw held at p)))

    pub enough_decides : (x : Result (Option Record) CaptureError) → read_record_lem.Reads.Post κs (o, (s, (at, tt))) x i → 4115 + at ≤ length u
        → read_record o (pre ++ (u ++ v)) (length pre + at) ≡ moved (length pre) (record_shown x)
    enough_decides x p l = there ∙ ap (moved (length pre)) (window o (drop at u) v (omega (arith, length-drop at u)) at ∙ sym (rw held at p))

    pub last_decides : (x : Result (Option Record) CaptureError) → read_record_lem.Reads.Post κs (o, (s, (at, tt))) x i → v ≡ []
        → read_record o (pre ++ (u ++ v)) (length pre + at) ≡ moved (length pre) (record_shown x)
    last_decides x p e = there ∙ ap (λ (t : List ℕ). moved (length pre) (record_in o at t)) (rw (e, append-nil (drop at u))) ∙ ap (moved (length pre)) (sym (rw held at p))
