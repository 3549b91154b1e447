-- Laws of the state between two ranges: a frame that is kept, or bytes that are skipped, lead from one that says the truth to another. Assumes nothing.
use Rattle.std.proofs.Common.{◌≡◌, ℕ, ◌+◌, ◌%◌, ◌^◌, ◌<◌, ◌≤◌, Bool, true, false, cond, List, [], ◌∷◌, ◌++◌, length, sym, refl, ap, ◌∙◌, append-nil, mod-eq_of_lt, arith, length-append}
use Rattle.lines.specs.declared.output.Out.{Out}
use Rattle.scan.specs.Cut.{Piece, kept, skipped, ◌before◌, cut, text, frames}
use Rattle.scan.specs.Window.{skipping, Reported, closed}
use Rattle.scan.proofs.CutLaws.{cut-length}
use Rattle.scan.proofs.Ranges.{joined, covers}
use Rattle.scan.proofs.Windows.{reported-nothing, reported_all}
use Rattle.dump.specs.Total.{is_refused, counted_frame, counted_skipped}
use Rattle.dump.specs.Window.{after_kept, after_skipped, refused_in, skipped_in, size, Stands}
use Rattle.dump.specs.declared.total.Totals.{Totals}
use Rattle.dump.specs.declared.window.Dumping.{Dumping}

-- counts of ranges, one after the other
frames_append : (ps qs : List Piece) → frames (ps ++ qs) ≡ frames ps ++ frames qs
frames_append [] qs = refl
frames_append (kept t ∷ ps) qs = ap (λ (fs : List (List ℕ)). t ∷ fs) (frames_append ps qs)
frames_append (skipped t ∷ ps) qs = frames_append ps qs

refused_append : (fs gs : List (List ℕ)) → refused_in (fs ++ gs) ≡ refused_in fs + refused_in gs
refused_append [] gs = omega arith
refused_append (f ∷ fs) gs = let e = refused_append fs gs in omega arith

skipped_append : (ps qs : List Piece) → skipped_in (ps ++ qs) ≡ skipped_in ps + skipped_in qs
skipped_append [] qs = omega arith
skipped_append (kept t ∷ ps) qs = skipped_append ps qs
skipped_append (skipped t ∷ ps) qs = let e = skipped_append ps qs in omega arith

size_append : (ps qs : List Piece) → size (ps ++ qs) ≡ size ps + size qs
size_append [] qs = omega arith
size_append (p ∷ ps) qs = let e = size_append ps qs in omega arith

closed-frames : (s : List ℕ) → frames (closed s) ≡ []
closed-frames [] = refl
closed-frames (b ∷ s) = refl

closed_skipped : (s : List ℕ) → skipped_in (closed s) ≡ length s
closed_skipped [] = refl
closed_skipped (b ∷ s) = omega arith

closed-size : (s : List ℕ) → size (closed s) ≡ length s
closed-size [] = refl
closed-size (b ∷ s) = omega arith

before-size : (b : ℕ) (ps : List Piece) → size (b before ps) ≡ 1 + size ps
before-size b [] = omega arith
before-size b (skipped t ∷ ps) = omega arith
before-size b (kept t ∷ ps) = omega arith

skipping-size : (s : List ℕ) (ps : List Piece) → size (skipping s ps) ≡ length s + size ps
skipping-size [] ps = omega arith
skipping-size (b ∷ s) ps = let e = before-size b (skipping s ps) in let f = skipping-size s ps in omega arith

size-joined : (ps : List Piece) → size ps ≡ length (joined ps)
size-joined [] = refl
size-joined (p ∷ ps) = let e = size-joined ps in let l = length-append (text p) (joined ps) in omega arith

cut-size : (s : List ℕ) → size (cut s) ≡ length s
cut-size s = size-joined (cut s) ∙ ap length (covers s)

-- no count is larger than the dump
frames-few : (ps : List Piece) → length (frames ps) ≤ length ps
frames-few [] = omega arith
frames-few (kept t ∷ ps) = let e = frames-few ps in omega arith
frames-few (skipped t ∷ ps) = let e = frames-few ps in omega arith

refused-few : (fs : List (List ℕ)) → refused_in fs ≤ length fs
refused-few [] = omega arith
refused-few (f ∷ fs) = go (is_refused f) (refused-few fs)
  where
    go : (t : Bool) → refused_in fs ≤ length fs → cond t 1 0 + refused_in fs ≤ length (f ∷ fs)
    go true h = omega arith
    go false h = omega arith

skipped_few : (ps : List Piece) → skipped_in ps ≤ size ps
skipped_few [] = omega arith
skipped_few (kept t ∷ ps) = let e = skipped_few ps in omega arith
skipped_few (skipped t ∷ ps) = let e = skipped_few ps in omega arith

module _ (whole : List ℕ) (ps : List Piece) (pending rest : List ℕ) (t : Reported whole ps pending rest) where
  pub reported-size : size ps + length pending + length rest ≡ length whole
  reported-size =
      let a = ap size t.ranges ∙ size_append ps (skipping pending (cut rest)) in
      let b = skipping-size pending (cut rest) in
      let c = cut-size whole in
      let d = cut-size rest in
      omega arith

  reported-few : length (frames ps) ≤ length whole
  reported-few =
      let a = ap length t.ranges ∙ length-append ps (skipping pending (cut rest)) in
      omega (arith, a, frames-few ps, cut-length 0 whole)

pub small : (n : ℕ) → n < 2 ^ 64 → n % 2 ^ 64 ≡ n
small n h = mod-eq_of_lt h

-- a frame more, refused or not
more-refused : (b : Bool) (n : ℕ) {m : ℕ} → n ≡ m → m + 1 < 2 ^ 64 → cond b ((n + 1) % 2 ^ 64) n ≡ m + cond b 1 0
more-refused true n e h = small (n + 1) (omega arith) ∙ omega arith
more-refused false n e h = omega arith

-- the ranges after a frame, and their counts
module _ (ps : List Piece) (pending frame : List ℕ) where
  abbrev next : List Piece
  next = ps ++ closed pending ++ kept frame ∷ []

  next-frames : frames next ≡ frames ps ++ frame ∷ []
  next-frames =
      let a : frames (ps ++ closed pending) ≡ frames ps = frames_append ps (closed pending) ∙ rw (closed-frames pending) (append-nil (frames ps)) in
      frames_append (ps ++ closed pending) (kept frame ∷ []) ∙ rw a

  next-refused : refused_in (frames next) ≡ refused_in (frames ps) + cond (is_refused frame) 1 0
  next-refused = let a = ap refused_in next-frames ∙ refused_append (frames ps) (frame ∷ []) in omega arith

  next_skipped : skipped_in next ≡ skipped_in ps + length pending
  next_skipped = omega (arith, skipped_append (ps ++ closed pending) (kept frame ∷ []), skipped_append ps (closed pending), closed_skipped pending)

  next-size : size next ≡ size ps + length pending + length frame
  next-size = omega (arith, size_append (ps ++ closed pending) (kept frame ∷ []), size_append ps (closed pending), closed-size pending)

module _ (whole : List ℕ) (bound : length whole < 2 ^ 64) (rest after : List ℕ) (d : Dumping) (s : Stands whole rest d) (used : ℕ) (o : Out) (small_used : used < 2 ^ 64) where
  pub kept_stands : (frame : List ℕ) → used ≡ d.used + length frame → Reported whole (s.ps ++ closed s.pending ++ kept frame ∷ []) [] after
      → Stands whole after (after_kept d (used % 2 ^ 64) frame o)
  unfolding counted_frame
  kept_stands frame u t =
      let n = next-frames s.ps s.pending frame in
      let l = ap length n ∙ length-append (frames s.ps) (frame ∷ []) in
      let few = reported-few whole (s.ps ++ closed s.pending ++ kept frame ∷ []) [] after t in
      let e = s.keeps in
      let m = small used small_used in
      record {
        ps = s.ps ++ closed s.pending ++ kept frame ∷ [];
        pending = [];
        reported = t;
        waits = refl;
        keeps = small (d.totals.kept + 1) (omega arith) ∙ omega arith;
        refuses = more-refused (is_refused frame) d.totals.refused s.refuses (omega (arith, refused-few (frames s.ps))) ∙ sym (next-refused s.ps s.pending frame);
        skips = omega (arith, s.skips, next_skipped s.ps s.pending frame);
        stops = omega (arith, m, s.stops, next-size s.ps s.pending frame);
      }

  pub skipped_stands : (n : ℕ) (t : List ℕ) → length t ≡ n → used ≡ d.used + n → Reported whole s.ps (s.pending ++ t) after → Stands whole after (after_skipped d (used % 2 ^ 64) n o)
  unfolding counted_skipped
  skipped_stands n t l u r =
      let a = length-append s.pending t in
      let whole-size = reported-size whole s.ps (s.pending ++ t) after r in
      let w = s.waits in
      let k = s.skips in
      let few = skipped_few s.ps in
      let m = small used small_used in
      record {
        ps = s.ps;
        pending = s.pending ++ t;
        reported = r;
        waits = small (d.pending + n) (omega arith) ∙ omega arith;
        keeps = s.keeps;
        refuses = s.refuses;
        skips = small (d.totals.skipped + n) (omega arith) ∙ omega arith;
        stops = omega (arith, m, s.stops);
      }

-- at the start of a dump, where nothing was reported
pub start_stands : (whole : List ℕ) (d : Dumping) → d.place ≡ 0 → d.used ≡ 0 → d.pending ≡ 0 → d.totals ≡ record { kept = 0; refused = 0; skipped = 0 } → Stands whole whole d
start_stands whole d p u w t =
    record {
      ps = [];
      pending = [];
      reported = reported-nothing whole;
      waits = w;
      keeps = ap (λ (x : Totals). x.kept) t;
      refuses = ap (λ (x : Totals). x.refused) t;
      skips = ap (λ (x : Totals). x.skipped) t;
      stops = omega arith;
    }

-- and at its end, where nothing is left: the counts are those of the whole dump
pub end_stands : (whole : List ℕ) (d : Dumping) → Stands whole [] d
    → (d.totals.kept ≡ length (frames (cut whole))) × (d.totals.refused ≡ refused_in (frames (cut whole))) × (d.totals.skipped ≡ skipped_in (cut whole)) × (d.place + d.used ≡ length whole)
end_stands whole d s =
    let all = reported_all whole s.ps s.pending s.reported in
    let same : frames (cut whole) ≡ frames s.ps = ap frames all ∙ frames_append s.ps (closed s.pending) ∙ rw (closed-frames s.pending) (append-nil (frames s.ps)) in
    let bytes = ap skipped_in all ∙ skipped_append s.ps (closed s.pending) in
    let every = reported-size whole s.ps s.pending [] s.reported in
    (s.keeps ∙ ap length (sym same), s.refuses ∙ ap refused_in (sym same), omega (arith, s.skips, bytes, closed_skipped s.pending), omega (arith, s.stops, every))
