use Rattle.std.proofs.Common.{take}
use Rattle.render.specs.Print.{Prints}
use Rattle.render.proofs.word.word.Given as goal

-- the bytes before `b` are printed
abbrev pub invariant-loop-b : goal.invariant-loop-b
invariant-loop-b l = Prints l.initial.buf l.at (take l.b-index l.s) l.to l.buf
