use native.Mathlib.Omega.{arith}
use Prim.Native.Nat.{zero}
use Rattle.scan.specs.Cut.{cut}
use Rattle.scan.proofs.CutLaws.{cut-length, rows-length}
use Rattle.scan.proofs.ScanLaws.{too_long_lem, too_full, all_listed}
use Rattle.scan.proofs.scan.Goals as goal

-- `scan` meets its contract. Assumes nothing.
pub returns-then-dump-gt65536 : goal.returns-then-dump-gt65536
returns-then-dump-gt65536 c = too_long_lem c.args.dump.now c.args.list.now c.if-dump-gt65536.true

pub overflow_mul-n : goal.overflow_mul-n
overflow_mul-n c = omega (arith, cut-length zero c.args.dump.now, c.count-n.ensures)

pub returns-then-list-n : goal.returns-then-list-n
returns-then-list-n c = too_full c.args.dump.now c.args.list.now c.count-n.result c.if-dump-gt65536.false c.count-n.ensures c.if-list-n.true

pub fill-requires : goal.fill-requires
fill-requires c = (c.if-dump-gt65536.false, omega (arith, rows-length 0 (cut c.args.dump.now), c.count-n.ensures, c.if-list-n.false))

pub returns : goal.returns
returns c = all_listed c.args.dump.now c.args.list.now c.count-n.result _ c.if-dump-gt65536.false c.count-n.ensures c.if-list-n.false c.fill.ensures
