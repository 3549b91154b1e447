-- What is written reads back: the header, a record at its place, and a whole file record after record to the end, in either byte order. Assumes nothing.
use Prim.Native.Nat.{ℕ, ◌+◌}
use mathlib.Core.Path.{◌≡◌, refl, sym, ap, ◌∙◌}
use mathlib.Core.List.{List, [], ◌∷◌, ◌++◌, append_assoc}
use mathlib.Core.Bool.{true, false}
use lib.Dec.{leb}
use native.Mathlib.Omega.{arith}
use lib.ListN.{length, take, drop, length-append}
use lib.Seq.{drop-append_seam, take_at, drop-drop}
use borrow.Author.Tests.{le-leb}
use Rattle.text.specs.Bytes.{part}
use Rattle.pcap.specs.Number.{low_first, value, bytes_of, value_of}
use Rattle.pcap.specs.Layout.{header, spelled, matches, exactly, header_bytes, record_head, record_bytes}
use Rattle.pcap.specs.Read.{head, read_header, found, number, record_in, read_record}
use Rattle.pcap.specs.File.{Entry, entry, Fits, AllFit, records, file, go_on, run_at, after_head, read_file, whole}
use Rattle.pcap.specs.declared.ByteOrder.{ByteOrder}
use Rattle.pcap.specs.declared.ByteOrder.TheVariants.{Little, Big}
use Rattle.pcap.proofs.NumberLaws.{number_back}
use Rattle.pcap.proofs.ReadLaws.{record_end, record_good}
use Rattle.pcap.proofs.RunLaws.{run_on}

-- the header
pub header-length : (o : ByteOrder) → length (header_bytes o) ≡ 24
unfolding spelled low_first
header-length Little = refl
header-length Big = refl

header-room : (o : ByteOrder) (t : List ℕ) → leb 24 (length (header_bytes o ++ t)) ≡ true
header-room o t = let k = header-length o in let l = length-append (header_bytes o) t in le-leb 24 (length (header_bytes o ++ t)) (omega arith)

in_order : (o : ByteOrder) (t : List ℕ) → (matches o (header_bytes o ++ t) 0 header ≡ true) × (matches o (header_bytes o ++ t) 0 (exactly header) ≡ true)
unfolding matches spelled low_first value part
in_order Little t = (refl, refl)
in_order Big t = (refl, refl)

other_order : (t : List ℕ) → matches Little (header_bytes Big ++ t) 0 header ≡ false
unfolding matches spelled low_first value part
other_order t = refl

pub header_back : (o : ByteOrder) (t : List ℕ) → read_header (header_bytes o ++ t) ≡ head o true
unfolding read_header
header_back Little t = rw (header-room Little t, (in_order Little t).0, (in_order Little t).1)
header_back Big t = rw (header-room Big t, other_order t, (in_order Big t).0, (in_order Big t).1)

-- a record's head is 16 bytes, four numbers
pub head-length : (o : ByteOrder) (a b n : ℕ) → length (spelled o (record_head a b n)) ≡ 16
unfolding spelled low_first
head-length Little a b n = refl
head-length Big a b n = refl

pub head_numbers : (o : ByteOrder) (a b n : ℕ) (t : List ℕ)
    → (number o (spelled o (record_head a b n) ++ t) 0 ≡ value_of o (bytes_of o 4 a)) × (number o (spelled o (record_head a b n) ++ t) 4 ≡ value_of o (bytes_of o 4 b))
    × (number o (spelled o (record_head a b n) ++ t) 8 ≡ value_of o (bytes_of o 4 n)) × (number o (spelled o (record_head a b n) ++ t) 12 ≡ value_of o (bytes_of o 4 n))
unfolding spelled low_first part
head_numbers Little a b n t = (refl, refl, refl, refl)
head_numbers Big a b n t = (refl, refl, refl, refl)

module _ (o : ByteOrder) (a b : ℕ) (f : List ℕ) where
  pub record_length : length (record_bytes o a b f) ≡ 16 + length f
  record_length = length-append (spelled o (record_head a b (length f))) f ∙ rw (head-length o a b (length f))

  module _ (h : Fits (entry a b f)) (at : ℕ) (rest : List ℕ) where
    -- what stands from the record's place on
    record_in_lem : record_in o at (record_bytes o a b f ++ rest) ≡ found a b (at + 16) (length f) (at + 16 + length f)
    record_in_lem =
        let s = spelled o (record_head a b (length f)) in
        let e = append_assoc s f rest in
        let l = length-append s (f ++ rest) in
        let m = length-append f rest in
        let k = head-length o a b (length f) in
        let ns = head_numbers o a b (length f) (f ++ rest) in
        let n₀ = ns.0 ∙ number_back o a h.0 in
        let n₁ = ns.1 ∙ number_back o b (omega (arith, h.1)) in
        let n₂ = ns.2 ∙ number_back o (length f) (omega (arith, h.2)) in
        let n₃ = ns.3 ∙ number_back o (length f) (omega (arith, h.2)) in
        let g = record_good o at (s ++ (f ++ rest)) (omega arith) (omega (arith, h.1)) (n₂ ∙ sym n₃) (omega (arith, h.2)) (omega arith) in
        rw e (g ∙ rw (n₀, n₁, n₂))

    -- at its place in a file
    pub record_back : (s pre : List ℕ) → s ≡ pre ++ (record_bytes o a b f ++ rest) → at ≡ length pre
        → (read_record o s at ≡ found a b (at + 16) (length f) (at + 16 + length f)) × (part s (at + 16) (length f) ≡ f)
    unfolding part
    record_back s pre e n =
        let h₀ = spelled o (record_head a b (length f)) in
        let d : drop at s ≡ record_bytes o a b f ++ rest = rw (e, n) (drop-append_seam pre (record_bytes o a b f ++ rest)) in
        let k = head-length o a b (length f) in
        let d₁ : drop 16 (h₀ ++ (f ++ rest)) ≡ f ++ rest = ap (λ (i : ℕ). drop i (h₀ ++ (f ++ rest))) (sym k) ∙ drop-append_seam h₀ (f ++ rest) in
        let d₂ : drop (at + 16) s ≡ f ++ rest = sym (drop-drop 16 at s) ∙ ap (drop 16) (d ∙ append_assoc h₀ f rest) ∙ d₁ in
        (ap (record_in o at) d ∙ record_in_lem, ap (take (length f)) d₂ ∙ take_at f rest (length f) refl)

-- the records of a file, from the first on
pub run_back : (o : ByteOrder) (es : List Entry) → AllFit es → (s pre : List ℕ) (at : ℕ) → s ≡ pre ++ records o es → at ≡ length pre → run_at o s at ≡ whole at es
unfolding records
run_back o [] h s pre at e p =
    let d : drop at s ≡ [] = rw (e, p) (drop-append_seam pre []) in
    run_on o s at ∙ ap (λ x. go_on s at x (λ past. run_at o s past)) (ap (record_in o at) d ∙ record_end o at [] refl)
run_back o (entry a b f ∷ es) h s pre at e p =
    let r = record_back o a b f h.0 at (records o es) s pre e p in
    let m = record_length o a b f in
    let u = length-append pre (record_bytes o a b f) in
    let again = run_back o es h.1 s (pre ++ record_bytes o a b f) (at + 16 + length f) (e ∙ sym (append_assoc pre (record_bytes o a b f) (records o es))) (omega arith) in
    run_on o s at ∙ ap (λ x. go_on s at x (λ past. run_at o s past)) r.0 ∙ rw (r.1, again)

-- a whole file
pub file_back : (o : ByteOrder) (es : List Entry) → AllFit es → read_file (file o es) ≡ whole 24 es
unfolding read_file
file_back o es h = ap (after_head (file o es)) (header_back o (records o es)) ∙ run_back o es h (file o es) (header_bytes o) 24 refl (sym (header-length o))
