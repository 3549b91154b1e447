use Rattle.text.specs.Find.{crlf}
use Rattle.at.proofs.LineLaws.{found_or_end}
use Rattle.at.proofs.line.first_line_end.Goals as goal

pub returns : goal.returns
returns c = let a = c.args in
    rw (c.unwrap_or.ensures, c.first_crlf.ensures) (found_or_end crlf a.s.now a.start c.requires)
