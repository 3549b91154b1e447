use Rattle.text.proofs.FindLaws.{from_end, to_end}
use Rattle.text.specs.Find.{crlf}
use mathlib.Core.Path.{sym}
use Rattle.text.proofs.find.first_crlf.Goals as goal

pub returns-then-s-from : goal.returns-then-s-from
returns-then-s-from c = sym (from_end crlf c.args.s.now c.args.from c.if-s-from.true)

pub returns-then-s-from-lt64 : goal.returns-then-s-from-lt64
returns-then-s-from-lt64 c = to_end crlf c.args.s.now c.args.from c.crlf_before.result c.crlf_before.ensures

pub returns-else-s-from-lt64 : goal.returns-else-s-from-lt64
returns-else-s-from-lt64 c = c.far_crlf.ensures
