use Rattle.std.proofs.Common.{take}
use Rattle.render.specs.Print.{Prints}
use Rattle.render.specs.Words.{pairs_of}
use Rattle.render.proofs.hex.pairs.Given as goal

-- the pairs of the bytes before `b` are printed
abbrev pub invariant-loop-b : goal.invariant-loop-b
invariant-loop-b l = Prints l.initial.buf l.at (pairs_of (take l.b-index l.s)) l.to l.buf
