-- A record that is written to the output from a place on stands there, and the rest of the output is as it was. Assumes nothing.
use Rattle.std.proofs.Common.{◌≡◌, ℕ, ◌+◌, ◌-◌, ◌≤◌, List, [], ◌++◌, length, take, drop, sym, ap, ◌∙◌, append_assoc, append-nil, arith, length-drop, drop_of_length-le, take_all, drop-drop}
use borrow.Rule.Slice.PartMut.{mid_of, put_mid}
use Rattle.text.specs.Put.{placed}
use Rattle.pcap.specs.Layout.{record_bytes}
use Rattle.pcap.specs.Write.{bytes, record_out, wrote, outcome, after, shown, Writes}
use Rattle.pcap.specs.declared.ByteOrder.TheVariants.{Little}
use Rattle.pcap.specs.declared.CaptureError.{CaptureError}
use Rattle.std.specs.Prelude.{Result}
use Rattle.pcap.proofs.WriteLaws.{head_list_lem, record_fits}

module _ (out f : List ℕ) (at a b : ℕ) (x : Result ℕ CaptureError) (exit : List ℕ) (h : b ≤ 999999) (k : length f ≤ 4099) (l : at + 4115 ≤ length out)
    (w : Writes (mid_of at (length out - at) out) (record_out (length (mid_of at (length out - at) out)) a b f) x exit) where
  rest : mid_of at (length out - at) out ≡ drop at out
  rest = take_all (length out - at) (drop at out) (omega (arith, length-drop at out))

  fits : record_out (length (mid_of at (length out - at) out)) a b f ≡ bytes (record_bytes Little a b f)
  fits =
      let r = ap length rest ∙ length-drop at out in
      record_fits (length (mid_of at (length out - at) out)) a b f h k (omega (arith, r)) ∙ ap (λ (s : List ℕ). bytes (s ++ f)) (sym (head_list_lem a b (length f)))

  pub put-answer : shown x ≡ wrote (length (record_bytes Little a b f))
  put-answer = w.answers ∙ ap outcome fits

  pub put_there : put_mid at (length out - at) out exit ≡ placed out at (record_bytes Little a b f)
  unfolding placed
  put_there =
      let r = record_bytes Little a b f in
      let none : drop (length out - at) (drop at out) ≡ [] = drop_of_length-le (drop at out) {i = length out - at} (omega (arith, length-drop at out)) in
      let left = w.leaves ∙ ap (after (mid_of at (length out - at) out)) fits in
      rw (left, none, append-nil (r ++ drop (length r) (mid_of at (length out - at) out)), rest, drop-drop (length r) at out) (sym (append_assoc (take at out) r (drop (at + length r) out)))
