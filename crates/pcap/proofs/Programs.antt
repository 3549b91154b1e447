-- What sequences of calls come to, by the functions' own contracts: a caller's loop over `read_record` gives the run of the file, a file that calls have
-- written is read back by calls, and a file that calls have read is written again by calls as the same bytes. Assumes nothing.
use Prim.Native.Nat.{ℕ, ◌+◌, ◌≤◌, ◌<◌}
use mathlib.Core.Path.{◌≡◌, refl, sym, ap, ◌∙◌}
use mathlib.Core.List.{List, [], ◌∷◌, ◌++◌}
use mathlib.Core.Bool.{Bool, true, false, cond, ◌&&◌}
use native.Mathlib.Omega.{arith}
use contract.Lifetimes.{Lfts}
use denote.Ref.{Bor}
use denote.Triple.Clauses.{AtExit}
use borrow.Fn.Kinds.{Dens, ended_of}
use lib.Dec.{leb}
use lib.ListN.{length, take, drop}
use lib.Seq.{take_at}
use borrow.Author.Tests.{leb-true}
use Rattle.text.specs.Bytes.{part}
use Rattle.pcap.specs.Refusal.{refusal_no}
use Rattle.pcap.specs.Layout.{header_bytes, record_bytes}
use Rattle.pcap.specs.Read.{head, read_header}
use Rattle.pcap.specs.Write.{Written, bytes, refused, header_out, record_out, wrote, outcome, after, refusal}
use Rattle.pcap.specs.File.{Entry, entry, AllFit, records, file, Run, record_then, then_end, then_refused, run_at, after_head, read_file, whole}
use Rattle.pcap.specs.declared.ByteOrder.{ByteOrder}
use Rattle.pcap.specs.declared.ByteOrder.TheVariants.{Little}
use Rattle.pcap.specs.declared.CaptureError.{CaptureError}
use Rattle.pcap.specs.declared.Record.{Record}
use Rattle.std.specs.Prelude.{Option, Some, None, Result, Ok, Err}
use Rattle.pcap.proofs.NumberLaws.{Bytes}
use Rattle.pcap.proofs.ReadLaws.{header_read, found-places}
use Rattle.pcap.proofs.RunLaws.{run_on}
use Rattle.pcap.proofs.WrittenRead.{record_length, file_back}
use Rattle.pcap.proofs.ReadWritten.{file_again}
use Rattle.pcap.proofs.read.read_header as read_header_lem
use Rattle.pcap.proofs.read.read_record as read_record_lem
use Rattle.pcap.proofs.write.write_header as write-header
use Rattle.pcap.proofs.write.write_record as write_record

-- Reading: `read_header` once, then `read_record` at the place that the call before it gave, up to the end or to a refusal
module _ (κs : Lfts 1) (s : Bor (List ℕ)) where
  -- what `read_header` may answer
  abbrev pub Begins : ByteOrder → Bool → Type 0
  Begins o ours = (i : AtExit (ended_of 1 read_header_lem.Kinds.ps read_header_lem.Kinds.r) κs) × read_header_lem.Reads.Post κs (s, tt) (Ok (record { order = o; is_ours = ours })) i

  module _ (o : ByteOrder) where
    -- what `read_record` may answer at a place
    abbrev pub Answers : ℕ → Result (Option Record) CaptureError → Type 0
    Answers at x = (i : AtExit (ended_of 1 read_record_lem.Kinds.ps read_record_lem.Kinds.r) κs) × read_record_lem.Reads.Post κs (o, (s, (at, tt))) x i

    -- the answers of a loop from a place on: nothing comes after the end or a refusal, and a record is not the last answer
    abbrev pub Calls : ℕ → List (Result (Option Record) CaptureError) → Type 0
    Calls at [] = ⊥
    Calls at (Ok (Some r) ∷ xs) = Answers at (Ok (Some r)) × Calls r.next xs
    Calls at (Ok None ∷ []) = Answers at (Ok None)
    Calls at (Ok None ∷ x ∷ xs) = ⊥
    Calls at (Err e ∷ []) = Answers at (Err e)
    Calls at (Err e ∷ x ∷ xs) = ⊥

    -- what they report, in the definitions' terms
    abbrev pub reported : ℕ → List (Result (Option Record) CaptureError) → Run
    reported at [] = then_end
    reported at (Ok (Some r) ∷ xs) = record_then (entry r.seconds r.microseconds (part s.now r.start r.len)) r.start (reported r.next xs)
    reported at (Ok None ∷ xs) = then_end
    reported at (Err e ∷ xs) = then_refused (refusal_no e) at

    pub calls_are_the_run : (xs : List (Result (Option Record) CaptureError)) (at : ℕ) → Calls at xs → reported at xs ≡ run_at o s.now at
    calls_are_the_run [] at c = absurd c
    calls_are_the_run (Ok (Some r) ∷ xs) at c =
        rw (run_on o s.now at, ← c.0.1)
        (ap (record_then (entry r.seconds r.microseconds (part s.now r.start r.len)) r.start) (calls_are_the_run xs r.next c.1))
    calls_are_the_run (Ok None ∷ []) at c = rw (run_on o s.now at, ← c.1)
    calls_are_the_run (Ok None ∷ x ∷ xs) at c = absurd c
    calls_are_the_run (Err e ∷ []) at c = rw (run_on o s.now at, ← c.1)
    calls_are_the_run (Err e ∷ x ∷ xs) at c = absurd c

    -- a record's frame is 16 bytes after the record's start, the next record just past the frame, and both are inside what was lent
    pub places-inside : (at : ℕ) (r : Record) → Answers at (Ok (Some r)) → (r.start ≡ at + 16) × (r.next ≡ r.start + r.len) × (r.next ≤ length s.now)
    places-inside at r a = let p = found-places o s.now at r.seconds r.microseconds r.start r.len r.next (sym a.1) in (p.0, p.1, p.2)

    -- a loop ends: it has no more calls than there are bytes left, and one for the end
    pub calls_are_few : (xs : List (Result (Option Record) CaptureError)) (at : ℕ) → at ≤ length s.now → Calls at xs → length xs + at ≤ length s.now + 1
    calls_are_few [] at h c = absurd c
    calls_are_few (Ok (Some r) ∷ xs) at h c =
        let p = places-inside at r c.0 in
        omega (arith, p.0, p.1, calls_are_few xs r.next p.2 c.1)
    calls_are_few (Ok None ∷ []) at h c = omega arith
    calls_are_few (Ok None ∷ x ∷ xs) at h c = absurd c
    calls_are_few (Err e ∷ []) at h c = omega arith
    calls_are_few (Err e ∷ x ∷ xs) at h c = absurd c

    -- over a whole file: what the definitions say of it, in at most as many calls as it has bytes
    pub calls_read_the_file : (ours : Bool) → Begins o ours → (xs : List (Result (Option Record) CaptureError)) → Calls 24 xs → (reported 24 xs ≡ read_file s.now) × (length xs ≤ length s.now)
    unfolding read_file
    calls_read_the_file ours b xs c =
        let h = header_read s.now o ours (sym b.1) in
        (calls_are_the_run xs 24 c ∙ ap (after_head s.now) b.1, omega (arith, calls_are_few xs 24 h.0 c))

-- Writing: each call that wrote, with its buffer at exit
pub record WroteHeader : Type 0 where
  pub lifetimes : Lfts 1
  pub args : Dens lifetimes write-header.Kinds.ps
  pub exit : AtExit (ended_of 1 write-header.Kinds.ps write-header.Kinds.r) lifetimes
  pub count : ℕ
  pub allowed : write-header.Reads.Post lifetimes args (Ok count) exit

-- seconds are a u32
pub record WroteRecord : Type 0 where
  pub lifetimes : Lfts 2
  pub args : Dens lifetimes write_record.Kinds.ps
  pub exit : AtExit (ended_of 2 write_record.Kinds.ps write_record.Kinds.r) lifetimes
  pub count : ℕ
  pub allowed : write_record.Reads.Post lifetimes args (Ok count) exit
  pub small : args.1.0 < 4294967296

-- the file that calls write: what each put at the start of its buffer, one after the other
abbrev pub header_of : WroteHeader → List ℕ
header_of w = take w.count w.exit.0.now

unfoldable pub records_of : List WroteRecord → List ℕ
records_of [] = []
records_of (w ∷ ws) = take w.count w.exit.0.now ++ records_of ws

abbrev pub asked : List WroteRecord → List Entry
asked [] = []
asked (w ∷ ws) = entry w.args.1.0 w.args.1.1.0 w.args.1.1.1.0.now ∷ asked ws

header-wrote : (room n : ℕ) → wrote n ≡ outcome (header_out room) → (header_out room ≡ bytes (header_bytes Little)) × (n ≡ length (header_bytes Little))
unfolding header_out
header-wrote room n e = go (leb (length (header_bytes Little)) room) e
  where
    go : (k : Bool) → wrote n ≡ outcome (cond k (bytes (header_bytes Little)) (refused 21))
        → (cond k (bytes (header_bytes Little)) (refused 21) ≡ bytes (header_bytes Little)) × (n ≡ length (header_bytes Little))
    go true q = let l : n ≡ length (header_bytes Little) = cc in (refl, l)
    go false q = absurd cc

record_wrote : (room a b : ℕ) (f : List ℕ) (n : ℕ) → wrote n ≡ outcome (record_out room a b f)
    → (record_out room a b f ≡ bytes (record_bytes Little a b f)) × (n ≡ length (record_bytes Little a b f)) × (b ≤ 999999) × (length f ≤ 4099)
unfolding record_out
record_wrote room a b f n e = go (leb b 999999) (leb (length f) 4099) (leb (length (record_bytes Little a b f)) room) refl refl e
  where
    go : (l m k : Bool) → leb b 999999 ≡ l → leb (length f) 4099 ≡ m
        → wrote n ≡ outcome (cond (l && m) (cond k (bytes (record_bytes Little a b f)) (refused 21)) (refused 20))
        → (cond (l && m) (cond k (bytes (record_bytes Little a b f)) (refused 21)) (refused 20) ≡ bytes (record_bytes Little a b f)) × (n ≡ length (record_bytes Little a b f)) × (b ≤ 999999) × (length f ≤ 4099)
    go true true true p q e =
        let s : n ≡ length (record_bytes Little a b f) = cc in
        (refl, s, leb-true b 999999 p, leb-true (length f) 4099 q)
    go true true false p q e = absurd cc
    go true false k p q e = absurd cc
    go false m k p q e = absurd cc

-- a record has at most 4,115 bytes
pub record_wrote-few : (room a b : ℕ) (f : List ℕ) (n : ℕ) → wrote n ≡ outcome (record_out room a b f) → n ≤ 4115
record_wrote-few room a b f n e =
    let k = record_wrote room a b f n e in
    omega (arith, k.1, k.3, record_length Little a b f)

-- what was put is the bytes that were to be written
put-at_front : (buf exit bs : List ℕ) (w : Written) (n : ℕ) → w ≡ bytes bs → n ≡ length bs → exit ≡ after buf w → take n exit ≡ bs
put-at_front buf exit bs w n e l x = rw (x ∙ ap (after buf) e, l) (take_at bs (drop (length bs) buf) (length bs) refl)

header_is : (w : WroteHeader) → header_of w ≡ header_bytes Little
header_is w =
    let buf = w.args.0.now in
    let k = header-wrote (length buf) w.count w.allowed.answers in
    put-at_front buf w.exit.0.now (header_bytes Little) (header_out (length buf)) w.count k.0 k.1 w.allowed.leaves

records_are : (ws : List WroteRecord) → (records_of ws ≡ records Little (asked ws)) × AllFit (asked ws)
unfolding records_of records
records_are [] = (refl, tt)
records_are (w ∷ ws) =
    let buf = w.args.0.now in
    let a = w.args.1.0 in
    let b = w.args.1.1.0 in
    let f = w.args.1.1.1.0.now in
    let k = record_wrote (length buf) a b f w.count w.allowed.answers in
    let one = put-at_front buf w.exit.0.now (record_bytes Little a b f) (record_out (length buf) a b f) w.count k.0 k.1 w.allowed.leaves in
    let more = records_are ws in
    (rw (one, more.0), ((w.small, k.2, k.3), more.1))

-- calls that wrote have written the file of what they were asked, and it can be read
pub calls_write_the_file : (w : WroteHeader) (ws : List WroteRecord) → (header_of w ++ records_of ws ≡ file Little (asked ws)) × AllFit (asked ws)
calls_write_the_file w ws = let r = records_are ws in (rw (header_is w, r.0), r.1)

module _ (κs : Lfts 1) (s : Bor (List ℕ)) (o : ByteOrder) (ours : Bool) (begins : Begins κs s o ours) (xs : List (Result (Option Record) CaptureError)) (calls : Calls κs s o 24 xs)
    (w : WroteHeader) (ws : List WroteRecord) where
  -- written by calls, read by calls: the same times and bytes, record after record, and then the end
  pub written-reads_back : s.now ≡ header_of w ++ records_of ws → reported κs s o 24 xs ≡ whole 24 (asked ws)
  written-reads_back e =
      let f = calls_write_the_file w ws in
      (calls_read_the_file κs s o ours begins xs calls).0 ∙ ap read_file (e ∙ f.0) ∙ file_back Little (asked ws) f.1

  -- read by calls to the end, little-endian with our header, and written by calls: the same file, byte for byte
  pub read_writes_back : Bytes s.now → o ≡ Little → ours ≡ true → reported κs s o 24 xs ≡ whole 24 (asked ws) → header_of w ++ records_of ws ≡ s.now
  read_writes_back h p q e =
      let r = sym (calls_read_the_file κs s o ours begins xs calls).0 ∙ e in
      let b : read_header s.now ≡ head Little true = sym begins.1 ∙ rw (p, q) in
      (calls_write_the_file w ws).0 ∙ (file_again Little s.now h b (asked ws) r).0

-- a refused write has changed no byte
unchanged : (buf : List ℕ) (n : ℕ) (x : Written) → refusal n ≡ outcome x → after buf x ≡ buf
unchanged buf n (bytes f) e = absurd cc
unchanged buf n (refused m) e = refl

pub refused-header_unchanged : (κs : Lfts 1) (a : Dens κs write-header.Kinds.ps) (e : AtExit (ended_of 1 write-header.Kinds.ps write-header.Kinds.r) κs) (x : CaptureError)
    → write-header.Reads.Post κs a (Err x) e → e.0.now ≡ a.0.now
refused-header_unchanged κs a e x p = p.leaves ∙ unchanged a.0.now (refusal_no x) (header_out (length a.0.now)) p.answers

pub refused_record_unchanged : (κs : Lfts 2) (a : Dens κs write_record.Kinds.ps) (e : AtExit (ended_of 2 write_record.Kinds.ps write_record.Kinds.r) κs) (x : CaptureError)
    → write_record.Reads.Post κs a (Err x) e → e.0.now ≡ a.0.now
refused_record_unchanged κs a e x p =
    p.leaves ∙ unchanged a.0.now (refusal_no x) (record_out (length a.0.now) a.1.0 a.1.1.0 a.1.1.1.0.now) p.answers
