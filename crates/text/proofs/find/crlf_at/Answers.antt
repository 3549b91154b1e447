use Rattle.text.proofs.FindLaws.{byte_other}
use native.Mathlib.Omega.{arith}
use mathlib.Core.List.{[], ◌∷◌}
use mathlib.Core.Path.{sym, ◌∙◌}
use borrow.Author.Tests.{ne_eqb}
use Rattle.text.proofs.find.crlf_at.Goals as goal

pub returns-else-s-i-eq13 : goal.returns-else-s-i-eq13
returns-else-s-i-eq13 c = ne_eqb _ 13 c.if-s-i-eq13.false ∙ sym (byte_other c.args.s.now c.args.i 13 (10 ∷ []) (omega arith) c.if-s-i-eq13.false)
