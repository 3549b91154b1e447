use Rattle.text.specs.Find.{crlf, last_of, last_below}
use mathlib.Core.Path.{◌≡◌}
use Rattle.text.proofs.find.last_crlf.Given as goal

abbrev pub invariant-loop-i : goal.invariant-loop-i
invariant-loop-i l = last_of crlf l.s ≡ last_below crlf l.s l.i
