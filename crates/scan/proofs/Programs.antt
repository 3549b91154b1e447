-- What a caller finds in the list that `scan` has filled, by the functions' own contracts: `scan.Reads.Post` is what `scan` ensures. Assumes nothing.
use Prim.Native.Nat.{ℕ, suc, ◌+◌, ◌<◌}
use mathlib.Core.Path.{◌≡◌, sym, ap, ◌∙◌}
use mathlib.Core.List.{List, ◌++◌}
use mathlib.Core.Bool.{true, false}
use native.Mathlib.Omega.{arith}
use contract.Lifetimes.{Lfts}
use denote.Ref.{Bor}
use denote.Triple.Clauses.{AtExit}
use borrow.Fn.Kinds.{Dens, ended_of}
use lib.ListN.{length, drop}
use lib.Seq.{drop-drop}
use Rattle.text.specs.Bytes.{part}
use Rattle.edm.specs.Packet.{identifiers, carried}
use Rattle.edm.specs.Payload.{word, read_payload}
use Rattle.edm.specs.Frame.{payload, read_frame}
use Rattle.scan.specs.Cut.{passes, run, cut, rows}
use Rattle.scan.specs.Scan.{after}
use Rattle.scan.specs.Listed.{listed_at}
use Rattle.std.specs.Prelude.{Ok}
use Rattle.scan.specs.declared.listed.Listed.{Listed}
use Rattle.scan.proofs.RunLaws.{reads_on}
use Rattle.scan.proofs.ScanLaws.{scan_listed}
use Rattle.scan.proofs.Ranges.{covers, run-taken}
use Rattle.scan.proofs.Rows.{start_of, row_of, row_at, row-passes, row-run, row-skips, row_ends, skipped_fails, starts_none, starts_end}
use Rattle.scan.proofs.scan as scan
use Rattle.scan.proofs.listed.range_at as range_at

-- a call that listed the ranges of a dump
pub record Listing : Type 0 where
  pub lifetimes : Lfts 2
  pub args : Dens lifetimes scan.Kinds.ps
  pub exit : AtExit (ended_of 2 scan.Kinds.ps scan.Kinds.r) lifetimes
  pub count : ℕ
  pub allowed : scan.Reads.Post lifetimes args (Ok count) exit

abbrev pub dump_of : Listing → List ℕ
dump_of c = c.args.0.now

abbrev pub list_of : Listing → List ℕ
list_of c = c.exit.1.0.now

-- and one that answered range k of that list
pub record Row (c : Listing) (k : ℕ) (r : Listed) : Type 0 where
  pub there : k < c.count
  pub lifetimes : Lfts 1
  pub list : Bor (List ℕ)
  pub lent : list.now ≡ list_of c
  pub exit : AtExit (ended_of 1 range_at.Kinds.ps range_at.Kinds.r) lifetimes
  pub allowed : range_at.Reads.Post lifetimes (list, (k, tt)) r exit

module _ (c : Listing) where
  pub counted : c.count ≡ length (cut (dump_of c))
  counted = (scan_listed (dump_of c) (length c.args.1.0.now) c.count c.allowed.answers).1

  pub filled : list_of c ≡ rows 0 (cut (dump_of c)) ++ drop (length (rows 0 (cut (dump_of c)))) c.args.1.0.now
  filled = c.allowed.leaves ∙ ap (after c.args.1.0.now) (scan_listed (dump_of c) (length c.args.1.0.now) c.count c.allowed.answers).0

module _ (c : Listing) (k : ℕ) (r : Listed) (row : Row c k r) where
  pub inside : k < length (cut (dump_of c))
  inside = let a = counted c in let b = row.there in omega arith

  pub is_row : r ≡ row_of (cut (dump_of c)) k
  is_row =
      row.allowed
      ∙ ap (λ (l : List ℕ). listed_at l k) (row.lent ∙ filled c)
      ∙ row_at (cut (dump_of c)) (drop (length (rows 0 (cut (dump_of c)))) c.args.1.0.now) k inside

  -- what is marked kept is the run that starts there, which passes checks 1 to 3
  pub kept-by_rule : r.kept ≡ true → (passes (run (drop r.start (dump_of c))) ≡ true) × (part (dump_of c) r.start r.len ≡ run (drop r.start (dump_of c)))
  unfolding part
  kept-by_rule e =
      let a = row-passes (dump_of c) k inside r is_row e in
      (a, rw (← row-run (dump_of c) k inside r is_row e) (run-taken (drop r.start (dump_of c)) a))

  -- so the frame layer's reader comes to the payload, and answers what that means
  pub kept-reads : r.kept ≡ true
      → read_frame (part (dump_of c) r.start r.len) ≡ read_payload (carried identifiers (word (part (dump_of c) r.start r.len) 3)) 5 (payload (part (dump_of c) r.start r.len))
  kept-reads e = let b = kept-by_rule e in reads_on (part (dump_of c) r.start r.len) (rw b.1 b.0)

  -- no place in a range that is marked skipped has such a run
  pub skipped_by_rule : r.kept ≡ false → (j : ℕ) → j < r.len → passes (run (drop (r.start + j) (dump_of c))) ≡ false
  skipped_by_rule e j h =
      let l = row-skips (dump_of c) k inside r is_row e in
      rw (← drop-drop j r.start (dump_of c)) (skipped_fails (drop r.start (dump_of c)) j (omega arith))

-- the ranges meet, the first starts at the first byte, and the last ends at the last
pub starts_first : (c : Listing) (r : Listed) → Row c 0 r → r.start ≡ 0
starts_first c r row = ap (λ (x : Listed). x.start) (is_row c 0 r row) ∙ starts_none (cut (dump_of c))

pub next_meets : (c : Listing) (k : ℕ) (r q : Listed) → Row c k r → Row c (suc k) q → q.start ≡ r.start + r.len
next_meets c k r q row then = ap (λ (x : Listed). x.start) (is_row c (suc k) q then) ∙ sym (row_ends (dump_of c) k (inside c k r row) r (is_row c k r row))

pub ends_last : (c : Listing) (k : ℕ) (r : Listed) → Row c k r → suc k ≡ c.count → r.start + r.len ≡ length (dump_of c)
ends_last c k r row e =
    row_ends (dump_of c) k (inside c k r row) r (is_row c k r row)
    ∙ ap (start_of (cut (dump_of c))) (e ∙ counted c)
    ∙ starts_end (cut (dump_of c))
    ∙ ap length (covers (dump_of c))
