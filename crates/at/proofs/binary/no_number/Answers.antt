use Rattle.at.proofs.binary.no_number.Goals as goal

pub returns-then-is_utf8 : goal.returns-then-is_utf8
returns-then-is_utf8 c = rw (← c.is_utf8.ensures, c.if-is_utf8.true) c.invalid.ensures

pub returns-else-is_utf8 : goal.returns-else-is_utf8
returns-else-is_utf8 c = rw (← c.is_utf8.ensures, c.if-is_utf8.false)
