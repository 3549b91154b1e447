use Rattle.std.proofs.Common.{◌≤◌, ◌≡◌, drop}
use Rattle.text.specs.Number.{digits_from}
use Rattle.lines.specs.Number.{capped, number_in}
use Rattle.lines.proofs.number.decimal.Given as goal

-- `decimal` meets its contract: what the digits that are left make of the number so far is what all make.
abbrev pub invariant-loop-b : goal.invariant-loop-b
invariant-loop-b l = (l.n ≤ 4294967296) × (number_in l.s ≡ capped (digits_from l.n (drop l.b-index l.s)))
