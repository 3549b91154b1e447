-- What was read, written again, is the same bytes: a header of ours, a record, a whole file, in either byte order. Assumes nothing.
use Prim.Native.Nat.{ℕ, ◌+◌, ◌≤◌}
use mathlib.Core.Path.{◌≡◌, refl, sym, ap, ◌∙◌}
use mathlib.Core.Bool.{true}
use mathlib.Core.List.{List, [], ◌∷◌, ◌++◌, append-nil, append_assoc}
use native.Mathlib.Omega.{arith}
use lib.Dec.{eqb}
use lib.ListN.{length, take, drop, length-drop, length-take, take-append-drop}
use lib.Seq.{drop-drop, get_or-drop, length-take-le}
use borrow.Author.Tests.{eqb-true}
use Rattle.text.specs.Bytes.{part}
use Rattle.text.proofs.Bools.{and_left, and_right}
use Rattle.pcap.specs.Number.{bytes_of, value_of}
use Rattle.pcap.specs.Layout.{Field, width, written, header, matches, exactly, spelled, header_bytes, record_head, record_bytes}
use Rattle.pcap.specs.Read.{head, read_header, Outcome, found, end, refusal, number, read_record}
use Rattle.pcap.specs.File.{Entry, entry, Fits, AllFit, records, file, go_on, run_at, after_head, read_file, whole}
use Rattle.pcap.specs.declared.ByteOrder.{ByteOrder}
use Rattle.pcap.proofs.NumberLaws.{Bytes, all_below_lem, field_again, number_small}
use Rattle.pcap.proofs.ReadLaws.{header_read, is_found, found-places, is-end}
use Rattle.pcap.proofs.RunLaws.{run_on}

module _ (o : ByteOrder) (t : List ℕ) (h : Bytes t) where
  -- a field's bytes, and what follows them
  piece : (i w : ℕ) → i + w ≤ length t → bytes_of o w (value_of o (part t i w)) ++ drop (i + w) t ≡ drop i t
  piece i w l = rw (field_again o t (all_below_lem t h) i w l) parted
    where
      parted : part t i w ++ drop (i + w) t ≡ drop i t
      parted = unfold part in rw (← drop-drop w i t) (take-append-drop w (drop i t))

  -- fields that have the values which are written, and what follows them
  abbrev size : List Field → ℕ
  size [] = 0
  size (f ∷ fs) = width f + size fs

  fields_again : (fs : List Field) (i : ℕ) → i + size fs ≤ length t → matches o t i (exactly fs) ≡ true → spelled o fs ++ drop (i + size fs) t ≡ drop i t
  unfolding matches spelled
  fields_again [] i l m = ap (λ (n : ℕ). drop n t) (let k : i + 0 ≡ i = omega arith in k)
  fields_again (f ∷ fs) i l m =
      let v = value_of o (part t i (width f)) in
      let e = eqb-true v (written f) (and_left (eqb v (written f)) (matches o t (i + width f) (exactly fs)) m) in
      let rest = fields_again fs (i + width f) (omega arith) (and_right (eqb v (written f)) (matches o t (i + width f) (exactly fs)) m) in
      let k : i + (width f + size fs) ≡ i + width f + size fs = omega arith in
      append_assoc (bytes_of o (width f) (written f)) (spelled o fs) (drop (i + (width f + size fs)) t)
      ∙ ap (λ (n : ℕ). bytes_of o (width f) (written f) ++ (spelled o fs ++ drop n t)) k
      ∙ ap (λ (u : List ℕ). bytes_of o (width f) (written f) ++ u) rest
      ∙ ap (λ (n : ℕ). bytes_of o (width f) n ++ drop (i + width f) t) (sym e)
      ∙ piece i (width f) (omega arith)

  -- so a header of ours is
  pub header_again : read_header t ≡ head o true → header_bytes o ++ drop 24 t ≡ t
  header_again e = let r = header_read t o true e in fields_again header 0 r.0 r.1

  -- and a record's head
  head_again : 16 ≤ length t → number o t 8 ≡ number o t 12 → spelled o (record_head (number o t 0) (number o t 4) (number o t 8)) ++ drop 16 t ≡ t
  unfolding spelled
  head_again l e =
      let x : ℕ → List ℕ = λ i. bytes_of o 4 (number o t i) in
      let p₁₂ : (x 8 ++ []) ++ drop 16 t ≡ drop 12 t = rw (e, append-nil (x 12)) (piece 12 4 (omega arith)) in
      let p₈ = append_assoc (x 8) (x 8 ++ []) (drop 16 t) ∙ ap (λ (r : List ℕ). x 8 ++ r) p₁₂ ∙ piece 8 4 (omega arith) in
      let p₄ = append_assoc (x 4) (x 8 ++ (x 8 ++ [])) (drop 16 t) ∙ ap (λ (r : List ℕ). x 4 ++ r) p₈ ∙ piece 4 4 (omega arith) in
      append_assoc (x 0) (x 4 ++ (x 8 ++ (x 8 ++ []))) (drop 16 t) ∙ ap (λ (r : List ℕ). x 0 ++ r) p₄ ∙ piece 0 4 (omega arith)

dropped : (s : List ℕ) → Bytes s → (n : ℕ) → Bytes (drop n s)
dropped s h n i = rw (get_or-drop n s i 0) (h (n + i))

module _ (o : ByteOrder) (s : List ℕ) (h : Bytes s) where
  -- a record and what follows it are the bytes from its place on
  pub record_again : (at a b start len past : ℕ) → read_record o s at ≡ found a b start len past → record_bytes o a b (part s start len) ++ drop past s ≡ drop at s
  unfolding part
  record_again at a b start len past e =
      let t = drop at s in
      let r = is_found o at t a b start len past e in
      let m = r.roomy in
      let l = length-drop 16 t in
      let w = head_again o t (dropped s h at) (omega arith) r.twice in
      let d : drop start s ≡ drop 16 t = rw r.starts (sym (drop-drop 16 at s)) in
      let f = length-take-le len (drop start s) (rw d (omega arith)) in
      let head = spelled o (record_head a b (length (take len (drop start s)))) in
      let d₂ : take len (drop start s) ++ drop past s ≡ drop 16 t =
      ap (λ (k : ℕ). take len (drop start s) ++ drop k s) (r.passes ∙ ap (λ (k : ℕ). k + len) (sym r.starts))
      ∙ ap (λ (u : List ℕ). take len (drop start s) ++ u) (sym (drop-drop len start s))
      ∙ take-append-drop len (drop start s)
      ∙ d in
      append_assoc head (take len (drop start s)) (drop past s) ∙ ap (λ (u : List ℕ). head ++ u) d₂ ∙ rw (f, r.seconds, r.microseconds, r.kept) w

  -- and can be written
  pub found-fits : (at a b start len past : ℕ) → read_record o s at ≡ found a b start len past → Fits (entry a b (part s start len))
  unfolding part
  found-fits at a b start len past e =
      let t = drop at s in
      let r = is_found o at t a b start len past e in
      let m = r.roomy in
      let k = length-take len (drop start s) in
      let n = r.short in
      (rw r.seconds (number_small o t (dropped s h at) 0 (omega arith)), r.second, omega arith)

  -- a run that came to the end: its records are the bytes from its place on, and can be written
  abbrev Again : ℕ → List Entry → Type 0
  Again at es = (drop at s ≡ records o es) × AllFit es

  none_again : (at : ℕ) (x : Outcome) → read_record o s at ≡ x → go_on s at x (λ past. run_at o s past) ≡ whole at [] → Again at []
  unfolding records
  none_again at (found a b start len past) e q = absurd cc
  none_again at end e q = (is-end o at (drop at s) e, tt)
  none_again at (refusal n) e q = absurd cc

  one_again : (at c d : ℕ) (f : List ℕ) (es : List Entry) → ((past : ℕ) → run_at o s past ≡ whole past es → Again past es) → (x : Outcome) → read_record o s at ≡ x
      → go_on s at x (λ past. run_at o s past) ≡ whole at (entry c d f ∷ es) → Again at (entry c d f ∷ es)
  unfolding records
  one_again at c d f es m (found a b start len past) e q =
      let q₁ : a ≡ c = cc in
      let q₂ : b ≡ d = cc in
      let q₃ : part s start len ≡ f = cc in
      let q₄ : run_at o s past ≡ whole (at + 16 + length f) es = cc in
      let r = is_found o at (drop at s) a b start len past e in
      let n : past ≡ at + 16 + length f = r.passes ∙ ap (λ (k : ℕ). at + 16 + k) (sym (found-places o s at a b start len past e).5 ∙ ap length q₃) in
      let rest = m past (q₄ ∙ ap (λ (k : ℕ). whole k es) (sym n)) in
      (sym (record_again at a b start len past e) ∙ rw (q₁, q₂, q₃, rest.0), (rw (← q₁, ← q₂, ← q₃) (found-fits at a b start len past e), rest.1))
  one_again at c d f es m end e q = absurd cc
  one_again at c d f es m (refusal n) e q = absurd cc

  pub run_again : (es : List Entry) (at : ℕ) → run_at o s at ≡ whole at es → Again at es
  run_again [] at q = none_again at (read_record o s at) refl (sym (run_on o s at) ∙ q)
  run_again (entry c d f ∷ es) at q = one_again at c d f es (λ past r. run_again es past r) (read_record o s at) refl (sym (run_on o s at) ∙ q)

  -- a file with our header that was read to its end is the file of its records, in its own byte order
  pub file_again : read_header s ≡ head o true → (es : List Entry) → read_file s ≡ whole 24 es → (file o es ≡ s) × AllFit es
  unfolding read_file
  file_again k es q =
      let r = run_again es 24 (sym (ap (after_head s) k) ∙ q) in
      (ap (λ (u : List ℕ). header_bytes o ++ u) (sym r.0) ∙ header_again o s h k, r.1)
