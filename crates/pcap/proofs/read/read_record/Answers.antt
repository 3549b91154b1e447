use native.Mathlib.Omega.{arith}
use Rattle.pcap.proofs.ReadLaws.{at_place, left_there, record_end, record_bad, record_good}
use Rattle.pcap.proofs.read.read_record.Goals as goal
use Rattle.pcap.proofs.read.read_record.Goals.{then-microseconds-gt999999-via-then-microseconds-gt999999, then-microseconds-gt999999-via-else-microseconds-gt999999+then-in_file-number_at, then-microseconds-gt999999-via-else-microseconds-gt999999+else-in_file-number_at+then-in_file-gt4099, then-microseconds-gt999999-via-else-microseconds-gt999999+else-in_file-number_at+else-in_file-gt4099+then-n-len}

pub returns-then-n-eq0 : goal.returns-then-n-eq0
returns-then-n-eq0 c =
    let a = c.args in
    let p = c.part in
    at_place a.order a.s.now p.result.now a.at _ p.ensures (record_end a.order a.at p.result.now (omega arith))

pub returns-then-n-lt16 : goal.returns-then-n-lt16
returns-then-n-lt16 c =
    let a = c.args in
    let p = c.part in
    at_place a.order a.s.now p.result.now a.at _ p.ensures
    (record_bad a.order a.at p.result.now (λ e. omega arith) (λ i j k l. omega arith))

pub returns-then-microseconds-gt999999 : goal.returns-then-microseconds-gt999999
returns-then-microseconds-gt999999 c =
    let a = c.args in
    let p = c.part in
    let y = c.number_at-microseconds.ensures in
    let z = c.number_at-in_file.ensures in
    at_place a.order a.s.now p.result.now a.at _ p.ensures
    (record_bad a.order a.at p.result.now (λ e. omega arith) (λ i j k l. elim c.then-microseconds-gt999999.branch [
      | then-microseconds-gt999999-via-then-microseconds-gt999999 w ↦ omega arith
      | then-microseconds-gt999999-via-else-microseconds-gt999999+then-in_file-number_at w ↦ let u = w.number_at.ensures in omega arith
      | then-microseconds-gt999999-via-else-microseconds-gt999999+else-in_file-number_at+then-in_file-gt4099 w ↦ omega arith
      | then-microseconds-gt999999-via-else-microseconds-gt999999+else-in_file-number_at+else-in_file-gt4099+then-n-len w ↦ omega arith
    ]))

pub overflow_add-start : goal.overflow_add-start
overflow_add-start c = omega (arith, left_there c.args.s.now c.args.at c.part.ensures)

pub overflow_add-result : goal.overflow_add-result
overflow_add-result c = omega (arith, left_there c.args.s.now c.args.at c.part.ensures)

pub returns : goal.returns
returns c =
    let a = c.args in
    let p = c.part in
    let y = c.number_at-microseconds.ensures in
    let z = c.number_at-in_file.ensures in
    let u = c.number_at.ensures in
    rw (c.number_at-2.ensures, y, z)
    (at_place a.order a.s.now p.result.now a.at _ p.ensures
    (record_good a.order a.at p.result.now (omega arith) (omega arith) (omega arith) (omega arith) (omega arith)))
