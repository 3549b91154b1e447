use mathlib.Core.Path.{refl}
use mathlib.Core.List.{◌++◌}
use lib.ListN.{length, length-append}
use native.Mathlib.Omega.{arith}
use Rattle.pcap.proofs.WriteLaws.{refuses, puts, put-after, head_list, record_wrong, record_over, record_fits}
use Rattle.pcap.proofs.write.write_record.Goals as goal

-- `write::write_record` meets its contract. Assumes nothing.
pub returns-then-microseconds-gt999999 : goal.returns-then-microseconds-gt999999
returns-then-microseconds-gt999999 c = let a = c.args in let e = c.then-microseconds-gt999999.either in refuses _ 20 (record_wrong _ _ _ a.frame.now (λ h. omega arith)) refl

pub returns-then-buf-n : goal.returns-then-buf-n
returns-then-buf-n c = let a = c.args in refuses _ 21 (record_over _ _ _ a.frame.now (omega arith) (omega arith) (omega arith)) refl

pub returns : goal.returns
returns c =
    let a = c.args in
    let f = a.frame.now in
    let head = head_list a.seconds a.microseconds (length f) in
    let n = length-append head f in
    let put_first =
    rw (
      c.copy_from_slice.ensures.after,
      c.to_le_bytes.ensures,
      c.copy_from_slice-2.ensures.after,
      c.to_le_bytes-2.ensures,
      c.copy_from_slice-3.ensures.after,
      c.to_le_bytes-3.ensures,
      c.copy_from_slice-4.ensures.after,
      c.to_le_bytes-4.ensures,
    )
    at c.put.ensures.1 in
    puts _ (head ++ f) _ _ (record_fits _ _ _ f (omega (arith, c)) (omega (arith, c)) (omega (arith, c))) (omega arith) (omega (arith, c))
    (put-after _ head f _ _ 16 refl (omega (arith, c)) put_first c.put-2.ensures.1)
