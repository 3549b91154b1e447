use mathlib.Core.Path.{sym, ◌∙◌}
use borrow.Author.Tests.{le-leb, lt-leb}
use lib.ListN.{length}
use native.Mathlib.Omega.{arith}
use Rattle.pcap.specs.Read.{read_header}
use Rattle.pcap.specs.declared.ByteOrder.TheVariants.{Little, Big}
use Rattle.pcap.proofs.ReadLaws.{ours_by_three}
use Rattle.pcap.proofs.read.read_header.Goals as goal
use Rattle.pcap.proofs.read.read_header.Goals.{then-is_header, else-is_header+then-is_header-2}

-- `read::read_header` meets its contract. Assumes nothing.
pub returns-then-s-lt24 : goal.returns-then-s-lt24
unfolding read_header
returns-then-s-lt24 c = rw (lt-leb 24 (length c.args.s.now) (omega arith))

pub returns-else-is_header-2 : goal.returns-else-is_header-2
unfolding read_header
returns-else-is_header-2 c = rw (le-leb 24 (length c.args.s.now) (omega arith), ← c.is_header.ensures, c.if-is_header.false, ← c.is_header-else-is_header.ensures, c.if-is_header-2.false)

pub returns : goal.returns
unfolding read_header
returns c =
    let s = c.args.s.now in
    elim c.if-is_header.branch [
      | then-is_header w ↦
          let m = sym c.is_header.ensures ∙ w.if-is_header.true in
          let u = rw w.file-is at c.is_ours.ensures in
          rw (w.file-is, u, le-leb 24 (length s) (omega arith), ours_by_three Little s m, m)
      | else-is_header+then-is_header-2 w ↦
          let n = sym c.is_header.ensures ∙ w.if-is_header.false in
          let m = sym w.is_header-else-is_header.ensures ∙ w.if-is_header-2.true in
          let u = rw w.file-is at c.is_ours.ensures in
          rw (w.file-is, u, le-leb 24 (length s) (omega arith), n, ours_by_three Big s m, m)
    ]
