-- What every program that meets a promise answers, so that wrong ones do not meet it. The promises are the functions' own: `scan.Reads.Post` is what `scan`
-- ensures. Assumes nothing.
use Prim.Native.Nat.{ℕ, ◌≤◌, ◌<◌}
use mathlib.Core.Path.{◌≡◌, ap, ◌∙◌}
use mathlib.Core.List.{List, [], ◌∷◌, ◌++◌}
use native.Mathlib.Omega.{arith}
use contract.Lifetimes.{Lfts}
use denote.Ref.{Bor}
use denote.MutBor.{MutBor}
use denote.Triple.Clauses.{AtExit}
use borrow.Fn.Kinds.{ended_of}
use mathlib.Core.Bool.{true, false}
use lib.ListN.{length, drop}
use Rattle.text.specs.Bytes.{hex}
use Rattle.scan.specs.Cut.{passes, run, cut_after, cut, rows}
use Rattle.scan.specs.Scan.{outcome, after}
use Rattle.scan.specs.Listed.{kept_of}
use Rattle.scan.specs.declared.ScanError.TheVariants as error
use Rattle.scan.specs.declared.ScanError.{ScanError}
use Rattle.std.specs.Prelude.{Option, Some, None, Result, Ok, Err}
use Rattle.scan.specs.declared.listed.Listed.{Listed}
use Rattle.scan.specs.declared.listed.Kept.{Kept}
use Rattle.scan.proofs.ScanLaws.{scanned_long, scanned_full, scanned-listed}
use Rattle.scan.proofs.OneOutcome.{answer_injective}
use Rattle.scan.proofs.scan as scan
use Rattle.scan.proofs.listed.range_at as range_at
use Rattle.scan.proofs.listed.next_kept as next-kept
use Rattle.scan.proofs.window.decided_places as decided_places_lem
use Rattle.scan.proofs.window.decided_bytes as decided_bytes_lem

module _ (κs : Lfts 2) (dump : Bor (List ℕ)) (list : MutBor (List ℕ)) (x : Result ℕ ScanError) (i : AtExit (ended_of 2 scan.Kinds.ps scan.Kinds.r) κs) (p : scan.Reads.Post κs (dump, (list, tt)) x i) where
  abbrev Lists : ℕ → List ℕ → Type 0
  Lists n numbers = (x ≡ Ok n) × (i.1.0.now ≡ numbers ++ drop (length numbers) list.now)

  abbrev Refuses : Result ℕ ScanError → Type 0
  Refuses r = (x ≡ r) × (i.1.0.now ≡ list.now)

  -- 23 comes before 22, and both leave the list as it was: one that asks for room first; one that lists what fits and then refuses
  pub too_long_lem : 65536 < length dump.now → Refuses (Err error.DumpTooLong)
  too_long_lem h =
      let e = scanned_long dump.now (length list.now) h in
      (answer_injective x (Err error.DumpTooLong) (p.answers ∙ ap outcome e), p.leaves ∙ ap (after list.now) e)

  pub no_room : length dump.now ≤ 65536 → length list.now < length (rows 0 (cut dump.now)) → Refuses (Err error.RangeListFull)
  no_room h k =
      let e = scanned_full dump.now (length list.now) h k in
      (answer_injective x (Err error.RangeListFull) (p.answers ∙ ap outcome e), p.leaves ∙ ap (after list.now) e)

  -- 22 exactly then, and later entries stay: one that wants room for a range more; one that ends the list with a zero
  pub with_room : length dump.now ≤ 65536 → length (rows 0 (cut dump.now)) ≤ length list.now → Lists (length (cut dump.now)) (rows 0 (cut dump.now))
  with_room h k =
      let e = scanned-listed dump.now (length list.now) h k in
      (answer_injective x (Ok (length (cut dump.now))) (p.answers ∙ ap outcome e), p.leaves ∙ ap (after list.now) e)

  -- one that goes on a byte after the start of what it keeps: it would list the frame inside
  pub frame-inside : dump.now ≡ hex "AA 00 07 AA 00 02 00 71 55 AA 55" → 3 ≤ length list.now → Lists 1 (0 ∷ 11 ∷ 1 ∷ [])
  unfolding passes run cut_after rows
  frame-inside e h = (rw e at with_room) (omega arith) h

  -- one that skips all of a frame that is cut, with the good one in it; one that lists each skipped byte by itself
  pub frame_in_cut : dump.now ≡ hex "AA 00 09 AA 00 02 00 71 55 AA 55" → 9 ≤ length list.now → Lists 3 (0 ∷ 3 ∷ 0 ∷ 3 ∷ 6 ∷ 1 ∷ 9 ∷ 2 ∷ 0 ∷ [])
  unfolding passes run cut_after rows
  frame_in_cut e h = (rw e at with_room) (omega arith) h

  -- one that takes the top 4 bits for the length; one that keeps only what a later check accepts (identifier 0072 is refused with 4)
  pub only_three_checks : dump.now ≡ hex "AA F0 02 00 72 55" → 3 ≤ length list.now → Lists 1 (0 ∷ 6 ∷ 1 ∷ [])
  unfolding passes run cut_after rows
  only_three_checks e h = (rw e at with_room) (omega arith) h

-- a list of three ranges, of which the last has a mark that `scan` never writes
abbrev three : List ℕ
three = 0 ∷ 1 ∷ 0 ∷ 1 ∷ 6 ∷ 1 ∷ 7 ∷ 2 ∷ 2 ∷ []

module _ (κs : Lfts 1) (list : Bor (List ℕ)) (e : list.now ≡ three) where
  -- one that takes number i for row i; one that takes every mark but 0 for kept; one that answers something past the list's end
  module _ (x : Listed) (i : AtExit (ended_of 1 range_at.Kinds.ps range_at.Kinds.r) κs) where
    pub second_row : range_at.Reads.Post κs (list, (1, tt)) x i → x ≡ record { start = 1; len = 6; kept = true }
    second_row p = rw e at p

    pub other_mark : range_at.Reads.Post κs (list, (2, tt)) x i → x ≡ record { start = 7; len = 2; kept = false }
    other_mark p = rw e at p

    pub past_the_rows : range_at.Reads.Post κs (list, (3, tt)) x i → x ≡ record { start = 0; len = 0; kept = false }
    past_the_rows p = rw e at p

  -- one that gives a skipped range, or stays at the one that it gave; one that looks at rows after the last range
  module _ (x : Option Kept) (i : AtExit (ended_of 1 next-kept.Kinds.ps next-kept.Kinds.r) κs) where
    pub kept_and_after : next-kept.Reads.Post κs (list, (3, (0, tt))) x i → x ≡ Some (record { start = 1; len = 6; next = 2 })
    unfolding kept_of
    kept_and_after p = rw e at p

    pub no-more-kept : next-kept.Reads.Post κs (list, (3, (2, tt))) x i → x ≡ None
    unfolding kept_of
    no-more-kept p = rw e at p

    pub count-ends : next-kept.Reads.Post κs (list, (1, (0, tt))) x i → x ≡ None
    unfolding kept_of
    count-ends p = rw e at p

-- one that decides a place with a byte too few, or waits for one too many; one that waits at the dump's end
module _ (κs : Lfts 0) (x : ℕ) (i : AtExit (ended_of 0 decided_places_lem.Kinds.ps decided_places_lem.Kinds.r) κs) where
  pub one-byte_too_few : decided_places_lem.Reads.Post κs (4098, (false, tt)) x i → x ≡ 0
  one-byte_too_few p = p

  pub just_enough : decided_places_lem.Reads.Post κs (4099, (false, tt)) x i → x ≡ 1
  just_enough p = p

  pub at_the_end : decided_places_lem.Reads.Post κs (5, (true, tt)) x i → x ≡ 5
  at_the_end p = p

-- one that cuts a frame where the decided places end, or keeps one that starts after them; one that skips more than is decided
module _ (κs : Lfts 0) (x : ℕ) (i : AtExit (ended_of 0 decided_bytes_lem.Kinds.ps decided_bytes_lem.Kinds.r) κs) where
  pub frame-not-cut : decided_bytes_lem.Reads.Post κs (record { start = 9; len = 6; kept = true }, (10, tt)) x i → x ≡ 6
  frame-not-cut p = p

  pub frame-waits : decided_bytes_lem.Reads.Post κs (record { start = 10; len = 6; kept = true }, (10, tt)) x i → x ≡ 0
  frame-waits p = p

  pub skipped_up_to : decided_bytes_lem.Reads.Post κs (record { start = 4; len = 100; kept = false }, (10, tt)) x i → x ≡ 6
  skipped_up_to p = p
